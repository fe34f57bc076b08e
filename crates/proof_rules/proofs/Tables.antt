-- Tables as they are read: what their numbers are, and their records.
use Rattle.std.proofs.Common.{◌≡◌, ℕ, suc, ◌+◌, ◌<◌, ◌≤◌, List, [], ◌∷◌, ◌++◌, length, map, refl, sym, ◌∙◌, ap, arith, append_assoc, ℤ, pos, Some}
use Rattle.std.specs.Prelude.{slice_get, unsigned_abs}
use Rattle.std.specs.List.{All}
use Rattle.std.proofs.lemmas.List.{append-nil, map-append}
use Rattle.station.proofs.Lists.{Every, every-at}
use Rattle.patterns.specs.Book.{offers_of}
use Rattle.pair_prices.specs.Case.{CaseRecord}
use Rattle.leaf_bounds.specs.declared.number.NumberValue.{NumberValue}
use Rattle.leaf_bounds.specs.declared.table.PotTable.{PotTable}
use Rattle.leaf_bounds.specs.Group.{Group, group_in}
use Rattle.leaf_bounds.specs.Expansion.{IsTableThere}
use Rattle.proof_file.specs.declared.record.ProofRecord.{ProofRecord}
use Rattle.proof_file.specs.declared.record.ProofRecord.TheVariants.{Table, Ta, Tb}
use Rattle.proof_file.specs.Text.{table_records, tables_from}
use Rattle.proof_rules.proofs.TestLemmas.{IsListed, all_every, every_all}
use Rattle.proof_rules.proofs.OpenLeaves.{all_of, ascends_of, each_of, listed_of}

abbrev pub number_key : NumberValue → ℤ
number_key x = pos x.number

pub record IsNumberThere (c : CaseRecord) (train : ℕ) (x : NumberValue) : Type 0 where
  pub some : 1 ≤ unsigned_abs x.value
  pub there : x.number < length (offers_of c.book train)

pub record IsGroup (c : CaseRecord) (g : Group) : Type 0 where
  pub order : g.first < g.second
  pub there : g.second < length c.book
  pub alpha : IsListed number_key (IsNumberThere c g.first) g.alpha
  pub beta : IsListed number_key (IsNumberThere c g.second) g.beta

pub pairs_there : (c : CaseRecord) (groups : List Group) → Every (IsGroup c) groups → (k : ℕ) (g : Group) → slice_get groups k ≡ Some g
    → (g.first < g.second) × (g.second < length c.book)
pairs_there c groups h k g e = let is = every-at (IsGroup c) groups h k g e in (is.order, is.there)

-- their records

abbrev pub group_records : ℕ → Group → List ProofRecord
group_records number g =
    Table (record { table = number; first = g.first; second = g.second }) ∷ map (λ x. Ta x) g.alpha ++ map (λ x. Tb x) g.beta

abbrev pub groups_from : ℕ → List Group → List ProofRecord
groups_from number [] = []
groups_from number (g ∷ groups) = group_records number g ++ groups_from (suc number) groups

pub groups_push : (n : ℕ) (groups : List Group) (g : Group) → groups_from n (groups ++ g ∷ []) ≡ groups_from n groups ++ group_records (n + length groups) g
groups_push n [] g =
    let number : n ≡ n + 0 = omega arith in
    append-nil (group_records n g) ∙ ap (λ k. group_records k g) number
groups_push n (h ∷ groups) g =
    ap (λ rs. group_records n h ++ rs) (groups_push (suc n) groups g)
    ∙ sym (append_assoc (group_records n h) (groups_from (suc n) groups) (group_records (suc n + length groups) g))
    ∙ ap (λ k. (group_records n h ++ groups_from (suc n) groups) ++ group_records k g) (next n (length groups))
  where
    next : (n m : ℕ) → suc n + m ≡ n + suc m
    next n m = omega arith

pub alpha_pushed : (number : ℕ) (g : Group) (x : NumberValue) → g.beta ≡ []
    → group_records number (record g { alpha = g.alpha ++ x ∷ [] }) ≡ group_records number g ++ Ta x ∷ []
alpha_pushed number g x e =
    let head = Table (record { table = number; first = g.first; second = g.second }) in
    ap (λ ys. head ∷ map (λ y. Ta y) (g.alpha ++ x ∷ []) ++ map (λ y. Tb y) ys) e
    ∙ append-nil (head ∷ map (λ y. Ta y) (g.alpha ++ x ∷ []))
    ∙ ap (λ rs. head ∷ rs) (map-append (λ y. Ta y) g.alpha (x ∷ []))
    ∙ ap (λ rs. rs ++ Ta x ∷ []) (sym (append-nil (head ∷ map (λ y. Ta y) g.alpha)))
    ∙ ap (λ ys. (head ∷ map (λ y. Ta y) g.alpha ++ map (λ y. Tb y) ys) ++ Ta x ∷ []) (sym e)

pub beta_pushed : (number : ℕ) (g : Group) (x : NumberValue)
    → group_records number (record g { beta = g.beta ++ x ∷ [] }) ≡ group_records number g ++ Tb x ∷ []
beta_pushed number g x =
    let front = Table (record { table = number; first = g.first; second = g.second }) ∷ map (λ y. Ta y) g.alpha in
    ap (λ rs. front ++ rs) (map-append (λ y. Tb y) g.beta (x ∷ []))
    ∙ sym (append_assoc front (map (λ y. Tb y) g.beta) (Tb x ∷ []))

-- the tables that they make

abbrev pub table_made : (c : CaseRecord) (g : Group) → IsGroup c g → PotTable
table_made c g h = record {
  first = g.first;
  second = g.second;
  alpha = g.alpha;
  beta = g.beta;
  kept = record {
    order = h.order;
    alpha_some = each_of number_key (IsNumberThere c g.first) (λ x. 1 ≤ unsigned_abs x.value) (λ x i. i.some) g.alpha h.alpha;
    beta_some = each_of number_key (IsNumberThere c g.second) (λ x. 1 ≤ unsigned_abs x.value) (λ x i. i.some) g.beta h.beta;
    alpha_ascends = ascends_of number_key (IsNumberThere c g.first) g.alpha h.alpha;
    beta_ascends = ascends_of number_key (IsNumberThere c g.second) g.beta h.beta;
  };
}

abbrev pub tables_made : (c : CaseRecord) (groups : List Group) → Every (IsGroup c) groups → List PotTable
tables_made c [] h = []
tables_made c (g ∷ groups) h = table_made c g h.0 ∷ tables_made c groups h.1

pub groups_made : (c : CaseRecord) (groups : List Group) (h : Every (IsGroup c) groups) → map group_in (tables_made c groups h) ≡ groups
groups_made c [] h = refl
groups_made c (g ∷ groups) h = ap (λ gs. g ∷ gs) (groups_made c groups h.1)

pub records_made : (c : CaseRecord) (n : ℕ) (groups : List Group) (h : Every (IsGroup c) groups) → tables_from n (tables_made c groups h) ≡ groups_from n groups
records_made c n [] h = refl
records_made c n (g ∷ groups) h = ap (λ rs. group_records n g ++ rs) (records_made c (suc n) groups h.1)

made_there : (c : CaseRecord) (groups : List Group) (h : Every (IsGroup c) groups) → Every (IsTableThere c) (tables_made c groups h)
made_there c [] h = tt
made_there c (g ∷ groups) h = (
  record {
    there = h.0.there;
    alpha = all_of number_key (IsNumberThere c g.first) (λ x. x.number < length (offers_of c.book g.first)) (λ x i. i.there) g.alpha h.0.alpha;
    beta = all_of number_key (IsNumberThere c g.second) (λ x. x.number < length (offers_of c.book g.second)) (λ x i. i.there) g.beta h.0.beta;
  },
  made_there c groups h.1,
)

pub each_made : (c : CaseRecord) (groups : List Group) (h : Every (IsGroup c) groups) → All (IsTableThere c) (tables_made c groups h)
each_made c groups h = every_all (IsTableThere c) (tables_made c groups h) (made_there c groups h)

-- and back from tables that are there

pub records_of_tables : (n : ℕ) (tables : List PotTable) → tables_from n tables ≡ groups_from n (map group_in tables)
records_of_tables n [] = refl
records_of_tables n (t ∷ tables) = ap (λ rs. table_records n t ++ rs) (records_of_tables (suc n) tables)

group_is : (c : CaseRecord) (t : PotTable) → IsTableThere c t → IsGroup c (group_in t)
group_is c t h = record {
  order = t.kept.order;
  there = h.there;
  alpha = listed_of number_key (λ x. 1 ≤ unsigned_abs x.value) (λ x. x.number < length (offers_of c.book t.first)) (IsNumberThere c t.first)
      (λ x a b. record { some = a; there = b }) t.alpha t.kept.alpha_some (all_every (λ x. x.number < length (offers_of c.book t.first)) t.alpha h.alpha)
      t.kept.alpha_ascends;
  beta = listed_of number_key (λ x. 1 ≤ unsigned_abs x.value) (λ x. x.number < length (offers_of c.book t.second)) (IsNumberThere c t.second)
      (λ x a b. record { some = a; there = b }) t.beta t.kept.beta_some (all_every (λ x. x.number < length (offers_of c.book t.second)) t.beta h.beta)
      t.kept.beta_ascends;
}

groups_by : (c : CaseRecord) (tables : List PotTable) → Every (IsTableThere c) tables → Every (IsGroup c) (map group_in tables)
groups_by c [] h = tt
groups_by c (t ∷ tables) h = (group_is c t h.0, groups_by c tables h.1)

pub groups_are : (c : CaseRecord) (tables : List PotTable) → All (IsTableThere c) tables → Every (IsGroup c) (map group_in tables)
groups_are c tables h = groups_by c tables (all_every (IsTableThere c) tables h)
