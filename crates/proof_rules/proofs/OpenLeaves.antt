-- What an open leaf's lists are, and the leaf that they make.
use Rattle.std.proofs.Common.{◌≡◌, ℕ, ◌<◌, ◌≤◌, ◌^◌, ◌==◌, ◌&&◌, List, [], ◌∷◌, length, take, ℤ, pos, ◌≤ℤ◌}
use Rattle.std.specs.Prelude.{Contains, Ok}
use Rattle.std.specs.List.{All}
use Rattle.std.specs.Ordering.{int_eq}
use Rattle.station.proofs.Lists.{Every, every-at, every-weaker}
use Rattle.patterns.specs.Allowed.{Lists, list_of}
use Rattle.pair_prices.specs.Case.{CaseRecord}
use Rattle.leaf_bounds.specs.declared.number.TrainValue.{TrainValue}
use Rattle.leaf_bounds.specs.declared.number.MinuteValue.{MinuteValue}
use Rattle.leaf_bounds.specs.declared.number.PairValue.{PairValue}
use Rattle.leaf_bounds.specs.declared.uses.UseOf.{UseOf}
use Rattle.leaf_bounds.specs.declared.leaf.Leaf.{Leaf as LeafOf}
use Rattle.leaf_bounds.specs.declared.shared.SharedLeaf.{SharedLeaf}
use Rattle.leaf_bounds.specs.declared.check.LeafValue.{LeafValue}
use Rattle.leaf_bounds.specs.Group.{Group}
use Rattle.leaf_bounds.specs.Listed.{IsTrainValue, IsMinuteValue, IsPairValue, AreLeafLists, Ascends, minute_key, pair_key}
use Rattle.leaf_bounds.specs.Leaf.{LeafRecord, StandsFor}
use Rattle.leaf_bounds.specs.Shown.{record_of_lists, numbers_of, IsPairThere, ArePlaces}
use Rattle.leaf_bounds.specs.Expansion.{AreSmall, expansion}
use Rattle.leaf_bounds.specs.Verdict.{verdict_of}
use Rattle.leaf_bounds.proofs.BoundedLemmas.{Each}
use Rattle.leaf_bounds.proofs.RisingLemmas.{ascends_from, every_from, rising_from}
use Rattle.leaf_bounds.proofs.VerdictLemmas.{v_least}
use Rattle.proof_rules.specs.Fault.{OpenLeaf}
use Rattle.proof_rules.proofs.TestLemmas.{IsListed, all_every, every_all}
use Rattle.proof_rules.proofs.VerdictFacts.{ok_stands}
use Rattle.proof_rules.proofs.SmallFacts.{listed_small}

-- what an entry is

pub record IsTrainThere (c : CaseRecord) (x : TrainValue) : Type 0 where
  pub value : IsTrainValue x
  pub there : x.train < length c.book

pub record IsMinuteThere (c : CaseRecord) (x : MinuteValue) : Type 0 where
  pub value : IsMinuteValue x
  pub there : x.platform < length c.station.platforms

pub record IsEntryThere (c : CaseRecord) (lists : Lists) (train : PairValue → ℕ) (x : PairValue) : Type 0 where
  pub value : IsPairValue x
  pub there : IsPairThere c x
  pub number : Contains (list_of lists (train x)) x.number

abbrev pub train_key : TrainValue → ℤ
train_key x = pos x.train

abbrev pub entry_key : PairValue → ℤ
entry_key x = pos (pair_key x)

abbrev pub use_key : UseOf → ℤ
use_key x = pos x.table

abbrev pub first_train : PairValue → ℕ
first_train x = x.first

abbrev pub second_train : PairValue → ℕ
second_train x = x.second

abbrev pub own_numbers : OpenLeaf → LeafRecord
own_numbers l = record_of_lists l.q l.u l.v l.alpha l.beta

-- an open leaf that may be closed, but for what a check of the leaf says
pub record IsOpen (c : CaseRecord) (groups : List Group) (lists : Lists) (l : OpenLeaf) : Type 0 where
  pub q_least : pos 1 ≤ℤ l.q
  pub q_most : l.q ≤ℤ pos (10 ^ 18)
  pub u : IsListed train_key (IsTrainThere c) l.u
  pub v : IsListed minute_key (IsMinuteThere c) l.v
  pub alpha : IsListed entry_key (IsEntryThere c lists first_train) l.alpha
  pub beta : IsListed entry_key (IsEntryThere c lists second_train) l.beta
  pub uses : IsListed use_key (λ x. x.table < length groups) l.uses
  pub small : (k : ℕ) → k ≤ length l.uses → AreSmall (expansion groups lists (own_numbers l) (take k l.uses))

-- a leaf with uses of these tables stands
pub record StandsWith (c : CaseRecord) (groups : List Group) (lists : Lists) (l : SharedLeaf) : Type 0 where
  pub places : ArePlaces c lists l.rest
  pub uses : All (λ x. x.table < length groups) l.uses
  pub small : (k : ℕ) → k ≤ length l.uses → AreSmall (expansion groups lists (numbers_of l.rest) (take k l.uses))
  pub stands : StandsFor c lists (expansion groups lists (numbers_of l.rest) l.uses)

-- entries by place

pub each_of : {X : Type 0} (key : X → ℤ) (P Q : X → Type 0) → ((x : X) → P x → Q x) → (xs : List X) → IsListed key P xs → Each Q xs
each_of key P Q weaker xs h = λ i x e. weaker x (every-at P xs h.each i x e)

pub all_of : {X : Type 0} (key : X → ℤ) (P Q : X → Type 0) → ((x : X) → P x → Q x) → (xs : List X) → IsListed key P xs → All Q xs
all_of key P Q weaker xs h = every_all Q xs (every-weaker P Q weaker xs h.each)

pub ascends_of : {X : Type 0} (key : X → ℤ) (P : X → Type 0) (xs : List X) → IsListed key P xs → Ascends key xs
ascends_of key P xs h = ascends_from key xs h.rising

every_joined : {X : Type 0} (P Q R : X → Type 0) → ((x : X) → P x → Q x → R x) → (xs : List X) → Every P xs → Every Q xs → Every R xs
every_joined P Q R join [] h g = tt
every_joined P Q R join (x ∷ xs) h g = (join x h.0 g.0, every_joined P Q R join xs h.1 g.1)

pub listed_of : {X : Type 0} (key : X → ℤ) (P Q R : X → Type 0) → ((x : X) → P x → Q x → R x) → (xs : List X) → Each P xs → Every Q xs → Ascends key xs
    → IsListed key R xs
listed_of key P Q R join xs each there ascends =
    record { each = every_joined P Q R join xs (every_from P xs each) there; rising = rising_from key xs ascends }

-- an open leaf and its alpha and beta by themselves
module _ (c : CaseRecord) (groups : List Group) (lists : Lists) (l : OpenLeaf) (o : IsOpen c groups lists l) where
  pub leaf_lists : AreLeafLists l.q l.u l.v l.alpha l.beta
  leaf_lists = record {
    q_least = o.q_least;
    q_most = o.q_most;
    u_each = each_of train_key (IsTrainThere c) IsTrainValue (λ x h. h.value) l.u o.u;
    v_each = each_of minute_key (IsMinuteThere c) IsMinuteValue (λ x h. h.value) l.v o.v;
    alpha_each = each_of entry_key (IsEntryThere c lists first_train) IsPairValue (λ x h. h.value) l.alpha o.alpha;
    beta_each = each_of entry_key (IsEntryThere c lists second_train) IsPairValue (λ x h. h.value) l.beta o.beta;
    u_ascends = ascends_of train_key (IsTrainThere c) l.u o.u;
    v_ascends = ascends_of minute_key (IsMinuteThere c) l.v o.v;
    alpha_ascends = ascends_of entry_key (IsEntryThere c lists first_train) l.alpha o.alpha;
    beta_ascends = ascends_of entry_key (IsEntryThere c lists second_train) l.beta o.beta;
  }

  abbrev pub leaf_made : LeafOf
  leaf_made = record { q = l.q; u = l.u; v = l.v; alpha = l.alpha; beta = l.beta; kept = leaf_lists }

  abbrev pub shared_made : SharedLeaf
  shared_made = record { rest = leaf_made; uses = l.uses; kept = ascends_of use_key (λ x. x.table < length groups) l.uses o.uses }

  places_made : ArePlaces c lists leaf_made
  places_made = record {
    trains = all_of train_key (IsTrainThere c) (λ x. x.train < length c.book) (λ x h. h.there) l.u o.u;
    platforms = all_of minute_key (IsMinuteThere c) (λ x. x.platform < length c.station.platforms) (λ x h. h.there) l.v o.v;
    alpha_pairs = all_of entry_key (IsEntryThere c lists first_train) (IsPairThere c) (λ x h. h.there) l.alpha o.alpha;
    alpha_numbers = all_of entry_key (IsEntryThere c lists first_train) (λ x. Contains (list_of lists x.first) x.number) (λ x h. h.number) l.alpha o.alpha;
    beta_pairs = all_of entry_key (IsEntryThere c lists second_train) (IsPairThere c) (λ x h. h.there) l.beta o.beta;
    beta_numbers = all_of entry_key (IsEntryThere c lists second_train) (λ x. Contains (list_of lists x.second) x.number) (λ x h. h.number) l.beta o.beta;
  }

  pub made_stands : (v : LeafValue) → verdict_of c lists (expansion groups lists (own_numbers l) l.uses) ≡ Ok v → StandsWith c groups lists shared_made
  made_stands v e = record {
    places = places_made;
    uses = every_all (λ x. x.table < length groups) l.uses o.uses.each;
    small = o.small;
    stands = ok_stands c lists (expansion groups lists (own_numbers l) l.uses) v o.q_least
        (λ p m. v_least l.v leaf_lists.v_each (λ x. x.platform == p && int_eq x.minute m)) e;
  }

-- the numbers of a leaf alone are small
pub own_small : (q : ℤ) (u : List TrainValue) (v : List MinuteValue) (alpha beta : List PairValue) → Each IsPairValue alpha → Each IsPairValue beta
    → Ascends entry_key alpha → Ascends entry_key beta → AreSmall (record_of_lists q u v alpha beta)
own_small q u v alpha beta a b i j = record { alpha = λ p n. listed_small p n alpha a i; beta = λ p n. listed_small p n beta b j }

pub open_small : (c : CaseRecord) (groups : List Group) (lists : Lists) (l : OpenLeaf) → IsOpen c groups lists l → AreSmall (own_numbers l)
open_small c groups lists l o =
    let kept = leaf_lists c groups lists l o in
    own_small l.q l.u l.v l.alpha l.beta kept.alpha_each kept.beta_each kept.alpha_ascends kept.beta_ascends

-- a leaf as one whose `close` is still to come
abbrev pub opened : SharedLeaf → OpenLeaf
opened l = record { q = l.rest.q; u = l.rest.u; v = l.rest.v; alpha = l.rest.alpha; beta = l.rest.beta; uses = l.uses }

pub stands_open : (c : CaseRecord) (groups : List Group) (lists : Lists) (l : SharedLeaf) → StandsWith c groups lists l → IsOpen c groups lists (opened l)
stands_open c groups lists l s =
    let kept = l.rest.kept in
    let places = s.places in
    record {
      q_least = kept.q_least;
      q_most = kept.q_most;
      u = listed_of train_key IsTrainValue (λ x. x.train < length c.book) (IsTrainThere c) (λ x h g. record { value = h; there = g }) l.rest.u kept.u_each
          (all_every (λ x. x.train < length c.book) l.rest.u places.trains) kept.u_ascends;
      v = listed_of minute_key IsMinuteValue (λ x. x.platform < length c.station.platforms) (IsMinuteThere c) (λ x h g. record { value = h; there = g })
          l.rest.v kept.v_each (all_every (λ x. x.platform < length c.station.platforms) l.rest.v places.platforms) kept.v_ascends;
      alpha = entries first_train l.rest.alpha kept.alpha_each places.alpha_pairs places.alpha_numbers kept.alpha_ascends;
      beta = entries second_train l.rest.beta kept.beta_each places.beta_pairs places.beta_numbers kept.beta_ascends;
      uses = record { each = all_every (λ x. x.table < length groups) l.uses s.uses; rising = rising_from use_key l.uses l.kept };
      small = s.small;
    }
  where
    entries : (train : PairValue → ℕ) (xs : List PairValue) → Each IsPairValue xs → All (IsPairThere c) xs → All (λ x. Contains (list_of lists (train x)) x.number) xs
        → Ascends entry_key xs → IsListed entry_key (IsEntryThere c lists train) xs
    entries train xs each pairs numbers ascends =
        listed_of entry_key IsPairValue (λ x. IsPairThere c x × Contains (list_of lists (train x)) x.number) (IsEntryThere c lists train)
        (λ x h g. record { value = h; there = g.0; number = g.1 }) xs each
        (every_joined (IsPairThere c) (λ x. Contains (list_of lists (train x)) x.number) (λ x. IsPairThere c x × Contains (list_of lists (train x)) x.number)
        (λ x h g. (h, g)) xs (all_every (IsPairThere c) xs pairs) (all_every (λ x. Contains (list_of lists (train x)) x.number) xs numbers)) ascends
