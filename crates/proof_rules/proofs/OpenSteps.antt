-- Steps through the records of an open leaf.
use Rattle.std.proofs.Common.{◌≡◌, ℕ, zero, suc, ◌<◌, ◌^◌, List, [], ◌∷◌, ◌++◌, length, take, map, refl, sym, ◌∙◌, ap, subst, append_assoc, Some, pos, ◌≤ℤ◌}
use Rattle.std.proofs.lemmas.List.{append-nil, map-append}
use Rattle.patterns.specs.Allowed.{Lists}
use Rattle.pair_prices.specs.Case.{CaseRecord}
use Rattle.leaf_bounds.specs.declared.number.TrainValue.{TrainValue}
use Rattle.leaf_bounds.specs.declared.number.MinuteValue.{MinuteValue}
use Rattle.leaf_bounds.specs.declared.number.PairValue.{PairValue}
use Rattle.leaf_bounds.specs.declared.uses.UseOf.{UseOf}
use Rattle.leaf_bounds.specs.Group.{Group}
use Rattle.leaf_bounds.specs.Listed.{IsPairValue, minute_key}
use Rattle.leaf_bounds.specs.Expansion.{AreSmall, expansion}
use Rattle.proof_file.specs.declared.record.ProofRecord.{ProofRecord}
use Rattle.proof_file.specs.declared.record.ProofRecord.TheVariants.{Leaf, U, V, A, B, Use}
use Rattle.proof_rules.specs.Fault.{OpenLeaf, State, here}
use Rattle.proof_rules.proofs.TestLemmas.{IsListed, listed_none}
use Rattle.proof_rules.proofs.SmallFacts.{expansion_alone}
use Rattle.proof_rules.proofs.OpenLeaves.{IsTrainThere, IsMinuteThere, IsEntryThere, train_key, entry_key, use_key, first_train, second_train, own_numbers, IsOpen, each_of, ascends_of, own_small}

-- the records of an open leaf
abbrev pub open_records : OpenLeaf → List ProofRecord
open_records l =
    Leaf l.q ∷ map (λ x. U x) l.u ++ map (λ x. V x) l.v ++ map (λ x. A x) l.alpha ++ map (λ x. B x) l.beta ++ map (λ x. Use x) l.uses

grown : {X : Type 0} (front : List ProofRecord) (make : X → ProofRecord) (xs : List X) (x : X)
    → front ++ map make (xs ++ x ∷ []) ≡ (front ++ map make xs) ++ make x ∷ []
grown front make xs x = ap (λ rs. front ++ rs) (map-append make xs (x ∷ [])) ∙ sym (append_assoc front (map make xs) (make x ∷ []))

padded : {X : Type 0} (front : List ProofRecord) (make : X → ProofRecord) (ys : List X) → ys ≡ [] → front ++ map make ys ≡ front
padded front make ys e = ap (λ zs. front ++ map make zs) e ∙ append-nil front

-- where the groups behind are empty, a record that is added to a group is added at the end

use_end : (front : List ProofRecord) (uses : List UseOf) → uses ≡ [] → front ++ map (λ x. Use x) uses ≡ front
use_end front uses e = padded front (λ x. Use x) uses e

b_end : (front : List ProofRecord) (beta : List PairValue) (uses : List UseOf) → beta ≡ [] → uses ≡ [] → front ++ map (λ x. B x) beta ++ map (λ x. Use x) uses ≡ front
b_end front beta uses e f = use_end (front ++ map (λ x. B x) beta) uses f ∙ padded front (λ x. B x) beta e

a_end : (front : List ProofRecord) (alpha beta : List PairValue) (uses : List UseOf) → alpha ≡ [] → beta ≡ [] → uses ≡ []
    → front ++ map (λ x. A x) alpha ++ map (λ x. B x) beta ++ map (λ x. Use x) uses ≡ front
a_end front alpha beta uses d e f = b_end (front ++ map (λ x. A x) alpha) beta uses e f ∙ padded front (λ x. A x) alpha d

v_end : (front : List ProofRecord) (v : List MinuteValue) (alpha beta : List PairValue) (uses : List UseOf) → v ≡ [] → alpha ≡ [] → beta ≡ [] → uses ≡ []
    → front ++ map (λ x. V x) v ++ map (λ x. A x) alpha ++ map (λ x. B x) beta ++ map (λ x. Use x) uses ≡ front
v_end front v alpha beta uses g d e f = a_end (front ++ map (λ x. V x) v) alpha beta uses d e f ∙ padded front (λ x. V x) v g

pub u_text : (l : OpenLeaf) (x : TrainValue) → l.v ≡ [] → l.alpha ≡ [] → l.beta ≡ [] → l.uses ≡ []
    → open_records (record l { u = l.u ++ x ∷ [] }) ≡ open_records l ++ U x ∷ []
u_text l x g d e f =
    v_end (Leaf l.q ∷ map (λ y. U y) (l.u ++ x ∷ [])) l.v l.alpha l.beta l.uses g d e f
    ∙ ap (λ rs. Leaf l.q ∷ rs) (map-append (λ y. U y) l.u (x ∷ []))
    ∙ ap (λ rs. rs ++ U x ∷ []) (sym (v_end (Leaf l.q ∷ map (λ y. U y) l.u) l.v l.alpha l.beta l.uses g d e f))

pub v_text : (l : OpenLeaf) (x : MinuteValue) → l.alpha ≡ [] → l.beta ≡ [] → l.uses ≡ []
    → open_records (record l { v = l.v ++ x ∷ [] }) ≡ open_records l ++ V x ∷ []
v_text l x d e f =
    let front = Leaf l.q ∷ map (λ y. U y) l.u in
    a_end (front ++ map (λ y. V y) (l.v ++ x ∷ [])) l.alpha l.beta l.uses d e f
    ∙ grown front (λ y. V y) l.v x
    ∙ ap (λ rs. rs ++ V x ∷ []) (sym (a_end (front ++ map (λ y. V y) l.v) l.alpha l.beta l.uses d e f))

pub a_text : (l : OpenLeaf) (x : PairValue) → l.beta ≡ [] → l.uses ≡ [] → open_records (record l { alpha = l.alpha ++ x ∷ [] }) ≡ open_records l ++ A x ∷ []
a_text l x e f =
    let front = Leaf l.q ∷ map (λ y. U y) l.u ++ map (λ y. V y) l.v in
    b_end (front ++ map (λ y. A y) (l.alpha ++ x ∷ [])) l.beta l.uses e f
    ∙ grown front (λ y. A y) l.alpha x
    ∙ ap (λ rs. rs ++ A x ∷ []) (sym (b_end (front ++ map (λ y. A y) l.alpha) l.beta l.uses e f))

pub b_text : (l : OpenLeaf) (x : PairValue) → l.uses ≡ [] → open_records (record l { beta = l.beta ++ x ∷ [] }) ≡ open_records l ++ B x ∷ []
b_text l x f =
    let front = Leaf l.q ∷ map (λ y. U y) l.u ++ map (λ y. V y) l.v ++ map (λ y. A y) l.alpha in
    use_end (front ++ map (λ y. B y) (l.beta ++ x ∷ [])) l.uses f
    ∙ grown front (λ y. B y) l.beta x
    ∙ ap (λ rs. rs ++ B x ∷ []) (sym (use_end (front ++ map (λ y. B y) l.beta) l.uses f))

pub use_text : (l : OpenLeaf) (x : UseOf) → open_records (record l { uses = l.uses ++ x ∷ [] }) ≡ open_records l ++ Use x ∷ []
use_text l x = grown (Leaf l.q ∷ map (λ y. U y) l.u ++ map (λ y. V y) l.v ++ map (λ y. A y) l.alpha ++ map (λ y. B y) l.beta) (λ y. Use y) l.uses x

-- an open leaf without uses

pub take_nothing : {X : Type 0} (k : ℕ) → take {A = X} k [] ≡ []
take_nothing zero = refl
take_nothing (suc k) = refl

pub open_without : (c : CaseRecord) (groups : List Group) (lists : Lists) (l : OpenLeaf) → pos 1 ≤ℤ l.q → l.q ≤ℤ pos (10 ^ 18)
    → IsListed train_key (IsTrainThere c) l.u → IsListed minute_key (IsMinuteThere c) l.v
    → IsListed entry_key (IsEntryThere c lists first_train) l.alpha → IsListed entry_key (IsEntryThere c lists second_train) l.beta
    → l.uses ≡ [] → IsOpen c groups lists l
open_without c groups lists l least most u v alpha beta e = record {
  q_least = least;
  q_most = most;
  u = u;
  v = v;
  alpha = alpha;
  beta = beta;
  uses = subst (IsListed use_key (λ x. x.table < length groups)) (sym e) (listed_none use_key (λ x. x.table < length groups));
  small = λ k h. subst AreSmall
      (sym (ap (λ us. expansion groups lists (own_numbers l) (take k us)) e ∙ ap (λ us. expansion groups lists (own_numbers l) us) (take_nothing k)
      ∙ expansion_alone groups lists (own_numbers l)))
      (own_small l.q l.u l.v l.alpha l.beta
      (each_of entry_key (IsEntryThere c lists first_train) IsPairValue (λ x i. i.value) l.alpha alpha)
      (each_of entry_key (IsEntryThere c lists second_train) IsPairValue (λ x i. i.value) l.beta beta)
      (ascends_of entry_key (IsEntryThere c lists first_train) l.alpha alpha) (ascends_of entry_key (IsEntryThere c lists second_train) l.beta beta));
}

-- the leaf is still open, with one more entry
pub record IsOpened (c : CaseRecord) (s t : State) (l : OpenLeaf) (r : ProofRecord) : Type 0 where
  pub new : OpenLeaf
  pub is : record s { leaf = Some new } ≡ t
  pub open_leaf : IsOpen c s.tables (here s) new
  pub text : open_records new ≡ open_records l ++ r ∷ []
