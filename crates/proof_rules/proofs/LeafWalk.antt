-- The records of a leaf that stands lead to the state behind it.
use Rattle.std.proofs.Common.{◌≡◌, ℕ, ◌+◌, ◌<◌, ◌≤◌, Bool, true, false, cond, ◌&&◌, List, [], ◌∷◌, ◌++◌, length, take, map, refl, sym, ◌∙◌, ap, subst, arith, append_assoc, length-append, Option, Some, None, Ok, Err, ℤ, pos, ◌≤ℤ◌}
use Rattle.std.specs.Prelude.{nat_lt, unsigned_abs}
use Rattle.std.proofs.lemmas.Int.{ints}
use Rattle.std.proofs.lemmas.List.{take_all, take-append-le}
use Rattle.std.proofs.lemmas.Bool.{and_from, lt-ltb}
use Rattle.patterns.specs.Allowed.{Lists}
use Rattle.pair_prices.specs.Case.{CaseRecord}
use Rattle.leaf_bounds.specs.declared.number.TrainValue.{TrainValue}
use Rattle.leaf_bounds.specs.declared.number.MinuteValue.{MinuteValue}
use Rattle.leaf_bounds.specs.declared.number.PairValue.{PairValue}
use Rattle.leaf_bounds.specs.declared.uses.UseOf.{UseOf}
use Rattle.leaf_bounds.specs.declared.shared.SharedLeaf.{SharedLeaf}
use Rattle.leaf_bounds.specs.declared.shared.SharedNode.TheVariants.{Leaf as SharedLeafNode}
use Rattle.leaf_bounds.specs.declared.tree.Bound.{Bound}
use Rattle.leaf_bounds.specs.Group.{Group}
use Rattle.leaf_bounds.specs.Leaf.{StandsFor, bound_of}
use Rattle.leaf_bounds.specs.Listed.{minute_key}
use Rattle.leaf_bounds.specs.Shown.{numbers_of}
use Rattle.leaf_bounds.specs.Expansion.{AreSmall, expansion, in_list}
use Rattle.leaf_bounds.specs.Tree.{lesser}
use Rattle.proof_file.specs.declared.record.ProofRecord.TheVariants.{Leaf, U, V, A, B, Use, Close}
use Rattle.proof_file.specs.Text.{shared_node_records}
use Rattle.proof_rules.specs.Fault.{place, sum, OpenLeaf, State, checked, is_above, is_some_value, is_pair_due, with_use, closed, after}
use Rattle.proof_rules.proofs.TestLemmas.{IsListed, is_some, listed_mid}
use Rattle.proof_rules.proofs.WalkLemmas.{Goes, goes_one, goes_append, group_goes}
use Rattle.proof_rules.proofs.VerdictFacts.{stands_ok}
use Rattle.proof_rules.proofs.SmallFacts.{in_listed, small_true}
use Rattle.proof_rules.proofs.OpenLeaves.{IsTrainThere, IsMinuteThere, IsEntryThere, train_key, entry_key, use_key, first_train, second_train, own_numbers, IsOpen, StandsWith, opened, stands_open}

-- a state between the header and the end
abbrev pub node_state : ℕ → List Group → Bool → List Lists → Option OpenLeaf → Bound → State
node_state version groups is_tree due leaf least =
    record { version = version; tables = groups; is_tree = is_tree; due = due; leaf = leaf; least = least; is_over = false }

three_from : (a b d : Bool) → a ≡ true → b ≡ true → d ≡ true → (a && b && d) ≡ true
three_from a b d p q r = and_from (a && b) d (and_from a b p q) r

positive : (z : ℤ) → pos 1 ≤ℤ z → 1 ≤ unsigned_abs z
positive z h = omega (arith, ints, h)

take_front : (xs ys : List UseOf) (x : UseOf) → take (length xs + 1) (xs ++ x ∷ ys) ≡ xs ++ x ∷ []
take_front xs ys x =
    let k = length xs + 1 in
    let all : length (xs ++ x ∷ []) ≤ k = omega (arith, length-append xs (x ∷ [])) in
    let within : k ≤ length (xs ++ x ∷ []) = omega (arith, length-append xs (x ∷ [])) in
    ap (λ us. take k us) (sym (append_assoc xs (x ∷ []) ys)) ∙ take-append-le k (xs ++ x ∷ []) ys within ∙ take_all k (xs ++ x ∷ []) all

module _ (c : CaseRecord) (version : ℕ) (groups : List Group) (lists : Lists) (rest : List Lists) (least : Bound) (l : OpenLeaf) (o : IsOpen c groups lists l) where
  abbrev with_leaf : List TrainValue → List MinuteValue → List PairValue → List PairValue → List UseOf → State
  with_leaf u v alpha beta uses =
      node_state version groups true (lists ∷ rest) (Some (record { q = l.q; u = u; v = v; alpha = alpha; beta = beta; uses = uses })) least

  u_on : (xs ys : List TrainValue) (x : TrainValue) → l.u ≡ xs ++ x ∷ ys
      → after c (with_leaf xs [] [] [] []) (U x) ≡ Ok (with_leaf (xs ++ x ∷ []) [] [] [] [])
  unfolding after
  u_on xs ys x e =
      let entry = listed_mid train_key (IsTrainThere c) xs ys x (subst (IsListed train_key (IsTrainThere c)) e o.u) in
      ap (λ b. checked b (with_leaf (xs ++ x ∷ []) [] [] [] []))
      (three_from (nat_lt x.train (length c.book)) (is_some_value x.value) (is_above train_key xs x) (lt-ltb x.train (length c.book) entry.0.there)
      (is_some x.value entry.0.value.some) entry.1)

  v_on : (xs ys : List MinuteValue) (x : MinuteValue) → l.v ≡ xs ++ x ∷ ys
      → after c (with_leaf l.u xs [] [] []) (V x) ≡ Ok (with_leaf l.u (xs ++ x ∷ []) [] [] [])
  unfolding after
  v_on xs ys x e =
      let entry = listed_mid minute_key (IsMinuteThere c) xs ys x (subst (IsListed minute_key (IsMinuteThere c)) e o.v) in
      ap (λ b. checked b (with_leaf l.u (xs ++ x ∷ []) [] [] []))
      (three_from (nat_lt x.platform (length c.station.platforms)) (is_some_value x.value) (is_above minute_key xs x)
      (lt-ltb x.platform (length c.station.platforms) entry.0.there) (is_some x.value (positive x.value entry.0.value.some)) entry.1)

  pair_due : (train : PairValue → ℕ) (xs : List PairValue) (x : PairValue) → IsEntryThere c lists train x → is_above entry_key xs x ≡ true → is_pair_due c xs x ≡ true
  pair_due train xs x h e =
      and_from (nat_lt x.first x.second && nat_lt x.second (length c.book) && is_some_value x.value) (is_above entry_key xs x)
      (three_from (nat_lt x.first x.second) (nat_lt x.second (length c.book)) (is_some_value x.value) (lt-ltb x.first x.second h.there.order)
      (lt-ltb x.second (length c.book) h.there.there) (is_some x.value h.value.some)) e

  a_on : (xs ys : List PairValue) (x : PairValue) → l.alpha ≡ xs ++ x ∷ ys
      → after c (with_leaf l.u l.v xs [] []) (A x) ≡ Ok (with_leaf l.u l.v (xs ++ x ∷ []) [] [])
  unfolding after
  a_on xs ys x e =
      let entry = listed_mid entry_key (IsEntryThere c lists first_train) xs ys x (subst (IsListed entry_key (IsEntryThere c lists first_train)) e o.alpha) in
      ap (λ b. checked b (with_leaf l.u l.v (xs ++ x ∷ []) [] []))
      (and_from (is_pair_due c xs x) (in_list lists x.first x.number) (pair_due first_train xs x entry.0 entry.1)
      (in_listed lists x.first x.number entry.0.number))

  b_on : (xs ys : List PairValue) (x : PairValue) → l.beta ≡ xs ++ x ∷ ys
      → after c (with_leaf l.u l.v l.alpha xs []) (B x) ≡ Ok (with_leaf l.u l.v l.alpha (xs ++ x ∷ []) [])
  unfolding after
  b_on xs ys x e =
      let entry = listed_mid entry_key (IsEntryThere c lists second_train) xs ys x (subst (IsListed entry_key (IsEntryThere c lists second_train)) e o.beta) in
      ap (λ b. checked b (with_leaf l.u l.v l.alpha (xs ++ x ∷ []) []))
      (and_from (is_pair_due c xs x) (in_list lists x.second x.number) (pair_due second_train xs x entry.0 entry.1)
      (in_listed lists x.second x.number entry.0.number))

  small_on : (xs ys : List UseOf) (x : UseOf) → l.uses ≡ xs ++ x ∷ ys → AreSmall (expansion groups lists (own_numbers l) (xs ++ x ∷ []))
  small_on xs ys x e =
      let k = length xs + 1 in
      let within : k ≤ length l.uses = omega (arith, ap length e, length-append xs (x ∷ ys)) in
      subst (λ (us : List UseOf). AreSmall (expansion groups lists (own_numbers l) us)) (ap (λ us. take k us) e ∙ take_front xs ys x) (o.small k within)

  use_on : (xs ys : List UseOf) (x : UseOf) → l.uses ≡ xs ++ x ∷ ys
      → after c (with_leaf l.u l.v l.alpha l.beta xs) (Use x) ≡ Ok (with_leaf l.u l.v l.alpha l.beta (xs ++ x ∷ []))
  unfolding after
  use_on xs ys x e =
      let entry = listed_mid use_key (λ y. y.table < length groups) xs ys x (subst (IsListed use_key (λ y. y.table < length groups)) e o.uses) in
      let s = with_leaf l.u l.v l.alpha l.beta xs in
      let new : OpenLeaf = record l { uses = xs ++ x ∷ [] } in
      ap (λ b. cond b (with_use c s new) (Err place))
      (and_from (nat_lt x.table (length groups)) (is_above use_key xs x) (lt-ltb x.table (length groups) entry.0) entry.1)
      ∙ ap (λ b. cond b (Ok (with_leaf l.u l.v l.alpha l.beta (xs ++ x ∷ []))) (Err sum))
      (small_true c lists (expansion groups lists (own_numbers l) (xs ++ x ∷ [])) (small_on xs ys x e))

  abbrev behind_leaf : State
  behind_leaf = node_state version groups true rest None (lesser least (bound_of c (expansion groups lists (own_numbers l) l.uses)))

  close_on : StandsFor c lists (expansion groups lists (own_numbers l) l.uses) → after c (with_leaf l.u l.v l.alpha l.beta l.uses) Close ≡ Ok behind_leaf
  unfolding after
  close_on stands =
      let numbers = expansion groups lists (own_numbers l) l.uses in
      ap (λ v. closed c (with_leaf l.u l.v l.alpha l.beta l.uses) numbers v (lists ∷ rest)) (stands_ok c lists numbers stands)

  leaf_on : (is_tree : Bool) → after c (node_state version groups is_tree (lists ∷ rest) None least) (Leaf l.q) ≡ Ok (with_leaf [] [] [] [] [])
  unfolding after
  leaf_on is_tree = refl

  pub open_goes : (is_tree : Bool) → StandsFor c lists (expansion groups lists (own_numbers l) l.uses)
      → Goes c (node_state version groups is_tree (lists ∷ rest) None least)
      (Leaf l.q ∷ map (λ x. U x) l.u ++ map (λ x. V x) l.v ++ map (λ x. A x) l.alpha ++ map (λ x. B x) l.beta ++ map (λ x. Use x) l.uses ++ Close ∷ [])
      behind_leaf
  open_goes is_tree stands =
      let s = node_state version groups is_tree (lists ∷ rest) None least in
      let us = map (λ x. U x) l.u in
      let vs = map (λ x. V x) l.v in
      let alphas = map (λ x. A x) l.alpha in
      let betas = map (λ x. B x) l.beta in
      let uses = map (λ x. Use x) l.uses in
      let head = Leaf l.q in
      let s0 = with_leaf [] [] [] [] [] in
      let s1 = with_leaf l.u [] [] [] [] in
      let s2 = with_leaf l.u l.v [] [] [] in
      let s3 = with_leaf l.u l.v l.alpha [] [] in
      let s4 = with_leaf l.u l.v l.alpha l.beta [] in
      let s5 = with_leaf l.u l.v l.alpha l.beta l.uses in
      let g0 = goes_one c s s0 head refl (leaf_on is_tree) in
      let g1 = goes_append c (head ∷ []) us s s0 s1 g0 (group_goes c (λ x. U x) (λ xs. with_leaf xs [] [] [] []) l.u (λ xs. refl) u_on) in
      let g2 = goes_append c (head ∷ us) vs s s1 s2 g1 (group_goes c (λ x. V x) (λ xs. with_leaf l.u xs [] [] []) l.v (λ xs. refl) v_on) in
      let g3 = goes_append c (head ∷ us ++ vs) alphas s s2 s3 g2 (group_goes c (λ x. A x) (λ xs. with_leaf l.u l.v xs [] []) l.alpha (λ xs. refl) a_on) in
      let g4 = goes_append c (head ∷ us ++ vs ++ alphas) betas s s3 s4 g3 (group_goes c (λ x. B x) (λ xs. with_leaf l.u l.v l.alpha xs []) l.beta (λ xs. refl) b_on) in
      let g5 = goes_append c (head ∷ us ++ vs ++ alphas ++ betas) uses s s4 s5 g4
      (group_goes c (λ x. Use x) (λ xs. with_leaf l.u l.v l.alpha l.beta xs) l.uses (λ xs. refl) use_on) in
      goes_append c (head ∷ us ++ vs ++ alphas ++ betas ++ uses) (Close ∷ []) s s5 behind_leaf g5 (goes_one c s5 behind_leaf Close refl (close_on stands))

-- what a leaf with uses of these tables says of the plans of its lists
abbrev pub bound_with : CaseRecord → List Group → Lists → SharedLeaf → Bound
bound_with c groups lists l = bound_of c (expansion groups lists (numbers_of l.rest) l.uses)

pub leaf_goes : (c : CaseRecord) (version : ℕ) (groups : List Group) (lists : Lists) (rest : List Lists) (least : Bound) (l : SharedLeaf) (is_tree : Bool)
    → StandsWith c groups lists l
    → Goes c (node_state version groups is_tree (lists ∷ rest) None least) (shared_node_records (SharedLeafNode l))
    (node_state version groups true rest None (lesser least (bound_with c groups lists l)))
leaf_goes c version groups lists rest least l is_tree s =
    open_goes c version groups lists rest least (opened l) (stands_open c groups lists l s) is_tree s.stands
