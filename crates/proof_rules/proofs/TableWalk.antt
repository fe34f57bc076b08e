-- The records of tables lead to the state with these tables.
use Rattle.std.proofs.Common.{◌≡◌, ℕ, suc, true, false, eqb, ◌&&◌, List, [], ◌∷◌, ◌++◌, length, map, refl, sym, ap, subst, arith, append_assoc, length-append, Some, None, Ok}
use Rattle.std.specs.Prelude.{nat_lt}
use Rattle.std.proofs.lemmas.List.{append-nil}
use Rattle.std.proofs.lemmas.Bool.{cond-true, eq-eqb, lt-ltb}
use Rattle.station.proofs.Lists.{Every}
use Rattle.patterns.specs.Allowed.{full_lists}
use Rattle.patterns.specs.Book.{offers_of}
use Rattle.pair_prices.specs.Case.{CaseRecord}
use Rattle.leaf_bounds.specs.declared.number.NumberValue.{NumberValue}
use Rattle.leaf_bounds.specs.declared.tree.Bound.TheVariants.{Nothing as NoBound}
use Rattle.leaf_bounds.specs.Group.{Group}
use Rattle.proof_file.specs.declared.record.ProofRecord.TheVariants.{Table, Ta, Tb}
use Rattle.proof_rules.specs.Fault.{State, checked, is_above, is_some_value, with_alpha, with_beta, with_tables, after}
use Rattle.proof_rules.proofs.TestLemmas.{IsListed, is_some, listed_mid}
use Rattle.proof_rules.proofs.WalkLemmas.{Goes, goes_one, goes_append, group_goes}
use Rattle.proof_rules.proofs.Tables.{number_key, IsNumberThere, IsGroup, group_records, groups_from}
use Rattle.proof_rules.proofs.TableSteps.{four_from, last_at}

-- the state behind these tables
abbrev pub tabled : CaseRecord → List Group → State
tabled c groups = record {
  version = 2;
  tables = groups;
  is_tree = false;
  due = full_lists c.book ∷ [];
  leaf = None;
  least = NoBound;
  is_over = false;
}

abbrev group_of : ℕ → ℕ → List NumberValue → List NumberValue → Group
group_of first second alpha beta = record { first = first; second = second; alpha = alpha; beta = beta }

module _ (c : CaseRecord) (front : List Group) (g : Group) (is : IsGroup c g) where
  abbrev at_alpha : List NumberValue → State
  at_alpha xs = tabled c (front ++ group_of g.first g.second xs [] ∷ [])

  abbrev at_beta : List NumberValue → State
  at_beta xs = tabled c (front ++ group_of g.first g.second g.alpha xs ∷ [])

  alpha_on : (xs ys : List NumberValue) (x : NumberValue) → g.alpha ≡ xs ++ x ∷ ys → after c (at_alpha xs) (Ta x) ≡ Ok (at_alpha (xs ++ x ∷ []))
  unfolding after
  alpha_on xs ys x e =
      let entry = listed_mid number_key (IsNumberThere c g.first) xs ys x (subst (IsListed number_key (IsNumberThere c g.first)) e is.alpha) in
      let old = group_of g.first g.second xs [] in
      let new = group_of g.first g.second (xs ++ x ∷ []) [] in
      let tests = true && is_above number_key xs x && is_some_value x.value && nat_lt x.number (length (offers_of c.book g.first)) in
      let changed : with_alpha c x old ≡ Some new =
      cond-true tests (Some new) None
      (four_from true (is_above number_key xs x) (is_some_value x.value) (nat_lt x.number (length (offers_of c.book g.first))) refl entry.1
      (is_some x.value entry.0.some) (lt-ltb x.number (length (offers_of c.book g.first)) entry.0.there)) in
      ap (with_tables (at_alpha xs)) (last_at (with_alpha c x) front old new changed)

  beta_on : (xs ys : List NumberValue) (x : NumberValue) → g.beta ≡ xs ++ x ∷ ys → after c (at_beta xs) (Tb x) ≡ Ok (at_beta (xs ++ x ∷ []))
  unfolding after
  beta_on xs ys x e =
      let entry = listed_mid number_key (IsNumberThere c g.second) xs ys x (subst (IsListed number_key (IsNumberThere c g.second)) e is.beta) in
      let old = group_of g.first g.second g.alpha xs in
      let new = group_of g.first g.second g.alpha (xs ++ x ∷ []) in
      let tests = is_above number_key xs x && is_some_value x.value && nat_lt x.number (length (offers_of c.book g.second)) in
      let changed : with_beta c x old ≡ Some new =
      cond-true tests (Some new) None
      (four_from true (is_above number_key xs x) (is_some_value x.value) (nat_lt x.number (length (offers_of c.book g.second))) refl entry.1
      (is_some x.value entry.0.some) (lt-ltb x.number (length (offers_of c.book g.second)) entry.0.there)) in
      ap (with_tables (at_beta xs)) (last_at (with_beta c x) front old new changed)

  table_on : after c (tabled c front) (Table (record { table = length front; first = g.first; second = g.second })) ≡ Ok (at_alpha [])
  unfolding after
  table_on =
      ap (λ b. checked b (at_alpha []))
      (four_from true (eqb (length front) (length front)) (nat_lt g.first g.second) (nat_lt g.second (length c.book)) refl (eq-eqb (length front) (length front) refl)
      (lt-ltb g.first g.second is.order) (lt-ltb g.second (length c.book) is.there))

  group_on : Goes c (tabled c front) (group_records (length front) g) (tabled c (front ++ g ∷ []))
  group_on =
      let head = Table (record { table = length front; first = g.first; second = g.second }) in
      goes_append c (head ∷ map (λ x. Ta x) g.alpha) (map (λ x. Tb x) g.beta) (tabled c front) (at_alpha g.alpha) (at_beta g.beta)
      (goes_append c (head ∷ []) (map (λ x. Ta x) g.alpha) (tabled c front) (at_alpha []) (at_alpha g.alpha)
      (goes_one c (tabled c front) (at_alpha []) head refl table_on)
      (group_goes c (λ x. Ta x) at_alpha g.alpha (λ xs. refl) alpha_on))
      (group_goes c (λ x. Tb x) at_beta g.beta (λ xs. refl) beta_on)

tables_on : (c : CaseRecord) (front groups : List Group) → Every (IsGroup c) groups
    → Goes c (tabled c front) (groups_from (length front) groups) (tabled c (front ++ groups))
tables_on c front [] h = λ n. ap (λ gs. Ok (tabled c gs)) (sym (append-nil front))
tables_on c front (g ∷ groups) h =
    let next : length (front ++ g ∷ []) ≡ suc (length front) = omega (arith, length-append front (g ∷ [])) in
    goes_append c (group_records (length front) g) (groups_from (suc (length front)) groups) (tabled c front) (tabled c (front ++ g ∷ [])) (tabled c (front ++ g ∷ groups))
    (group_on c front g h.0)
    (subst (λ (gs : List Group). Goes c (tabled c (front ++ g ∷ [])) (groups_from (suc (length front)) groups) (tabled c gs))
    (append_assoc front (g ∷ []) groups)
    (subst (λ (k : ℕ). Goes c (tabled c (front ++ g ∷ [])) (groups_from k groups) (tabled c (front ++ g ∷ [] ++ groups))) next
    (tables_on c (front ++ g ∷ []) groups h.1)))

pub tables_go : (c : CaseRecord) (groups : List Group) → Every (IsGroup c) groups → Goes c (tabled c []) (groups_from 0 groups) (tabled c groups)
tables_go c groups h = tables_on c [] groups h
