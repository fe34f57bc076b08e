-- The records of a proof are those of no other tree.
use mathlib.Core.HLevel.{is_prop→PathP}
use Rattle.std.proofs.Math.Bridge.{le_prop}
use Rattle.std.proofs.Math.Dec.{T_prop}
use Rattle.std.proofs.Common.{◌≡◌, ℕ, suc, Bool, true, false, List, [], ◌∷◌, ◌++◌, map, refl, sym, ◌∙◌, ap, append_assoc}
use Rattle.std.specs.Prelude.{ℤ, flat_map}
use Rattle.leaf_bounds.specs.declared.number.TrainValue.{TrainValue}
use Rattle.leaf_bounds.specs.declared.number.MinuteValue.{MinuteValue}
use Rattle.leaf_bounds.specs.declared.number.PairValue.{PairValue}
use Rattle.leaf_bounds.specs.declared.number.NumberValue.{NumberValue}
use Rattle.leaf_bounds.specs.declared.uses.UseOf.{UseOf}
use Rattle.leaf_bounds.specs.declared.leaf.Leaf.{Leaf as LeafOf}
use Rattle.leaf_bounds.specs.declared.table.PotTable.{PotTable}
use Rattle.leaf_bounds.specs.declared.shared.SharedLeaf.{SharedLeaf}
use Rattle.leaf_bounds.specs.declared.shared.SharedNode.{SharedNode}
use Rattle.leaf_bounds.specs.declared.shared.SharedNode.TheVariants.{Split as SharedSplit, Leaf as SharedLeafNode}
use Rattle.leaf_bounds.specs.declared.tree.Bound.{Bound}
use Rattle.leaf_bounds.specs.declared.tree.Cut.{Cut}
use Rattle.leaf_bounds.specs.declared.tree.Bound.TheVariants.{AtLeast, Nothing as NoBound}
use Rattle.leaf_bounds.specs.declared.tree.Node.{Node}
use Rattle.leaf_bounds.specs.declared.tree.Node.TheVariants.{Split as SplitNode, Leaf as LeafNode}
use Rattle.leaf_bounds.specs.Listed.{AreLeafLists, AreUses, IsTable}
use Rattle.proof_file.specs.declared.record.ProofRecord.{ProofRecord}
use Rattle.proof_file.specs.declared.record.ProofRecord.TheVariants.{Head, Table, Ta, Tb, Split, Leaf, U, V, A, B, Use, Close, End, Nothing}
use Rattle.proof_file.specs.Text.{numbers_of, node_records, shared_node_records, table_records, tables_from, end_of, proof_records, shared_records, proof_text, shared_text}
use Rattle.proof_file.proofs.LineTexts.{texts_same}

-- what a leaf, a table and a list of uses keep has one proof
leaf_lists_prop : (q : ℤ) (u : List TrainValue) (v : List MinuteValue) (alpha beta : List PairValue) → IsProp (AreLeafLists q u v alpha beta)
leaf_lists_prop q u v alpha beta = hlevel (le_prop, T_prop)

table_prop : (first second : ℕ) (alpha beta : List NumberValue) → IsProp (IsTable first second alpha beta)
table_prop first second alpha beta = hlevel (le_prop, T_prop)

uses_prop : (uses : List UseOf) → IsProp (AreUses uses)
uses_prop uses = hlevel (le_prop, T_prop)

pub leaf_same : (l m : LeafOf) → l.q ≡ m.q → l.u ≡ m.u → l.v ≡ m.v → l.alpha ≡ m.alpha → l.beta ≡ m.beta → l ≡ m
leaf_same l m q u v a b = λ i. record {
  q = q i;
  u = u i;
  v = v i;
  alpha = a i;
  beta = b i;
  kept = is_prop→PathP (λ j. AreLeafLists (q j) (u j) (v j) (a j) (b j)) (λ j. leaf_lists_prop (q j) (u j) (v j) (a j) (b j)) l.kept m.kept i;
}

table_same : (t s : PotTable) → t.first ≡ s.first → t.second ≡ s.second → t.alpha ≡ s.alpha → t.beta ≡ s.beta → t ≡ s
table_same t s f g a b = λ i. record {
  first = f i;
  second = g i;
  alpha = a i;
  beta = b i;
  kept = is_prop→PathP (λ j. IsTable (f j) (g j) (a j) (b j)) (λ j. table_prop (f j) (g j) (a j) (b j)) t.kept s.kept i;
}

shared_leaf_same : (l m : SharedLeaf) → l.rest ≡ m.rest → l.uses ≡ m.uses → l ≡ m
shared_leaf_same l m r u = λ i. record {
  rest = r i;
  uses = u i;
  kept = is_prop→PathP (λ j. AreUses (u j)) (λ j. uses_prop (u j)) l.kept m.kept i;
}

-- the kind of the first record
abbrev starts : (ProofRecord → Bool) → List ProofRecord → Bool
starts p [] = false
starts p (r ∷ records) = p r

abbrev is_u : ProofRecord → Bool
is_u (U x) = true
is_u _ = false

abbrev is_v : ProofRecord → Bool
is_v (V x) = true
is_v _ = false

abbrev is_a : ProofRecord → Bool
is_a (A x) = true
is_a _ = false

abbrev is_b : ProofRecord → Bool
is_b (B x) = true
is_b _ = false

abbrev is_use : ProofRecord → Bool
is_use (Use x) = true
is_use _ = false

abbrev is_ta : ProofRecord → Bool
is_ta (Ta x) = true
is_ta _ = false

abbrev is_tb : ProofRecord → Bool
is_tb (Tb x) = true
is_tb _ = false

abbrev is_table : ProofRecord → Bool
is_table (Table x) = true
is_table _ = false

record IsSameItem {N : Type 0} (n m : N) (more other : List ProofRecord) : Type 0 where
  same : n ≡ m
  rest : more ≡ other

head_same : {X : Type 0} (x y : X) (xs ys : List X) → x ∷ xs ≡ y ∷ ys → x ≡ y
head_same x y xs ys e = cc

tail_same : {X : Type 0} (x y : X) (xs ys : List X) → x ∷ xs ≡ y ∷ ys → xs ≡ ys
tail_same x y xs ys e = cc

-- a group of records of one kind ends where another kind begins
module _ {X : Type 0} (make : X → ProofRecord) (p : ProofRecord → Bool) (own : (x : X) → p (make x) ≡ true) (back : (x y : X) → make x ≡ make y → x ≡ y) where
  group_same : (xs ys : List X) (more other : List ProofRecord) → starts p more ≡ false → starts p other ≡ false
      → map make xs ++ more ≡ map make ys ++ other → IsSameItem xs ys more other
  group_same [] [] more other m o e = record { same = refl; rest = e }
  group_same [] (y ∷ ys) more other m o e =
      let yes : true ≡ starts p more = sym (own y) ∙ ap (starts p) (sym e) in
      absurd (cc (yes, m))
  group_same (x ∷ xs) [] more other m o e =
      let yes : true ≡ starts p other = sym (own x) ∙ ap (starts p) e in
      absurd (cc (yes, o))
  group_same (x ∷ xs) (y ∷ ys) more other m o e =
      let rest = group_same xs ys more other m o (tail_same (make x) (make y) (map make xs ++ more) (map make ys ++ other) e) in
      let first = back x y (head_same (make x) (make y) (map make xs ++ more) (map make ys ++ other) e) in
      record { same = ap (λ z. z ∷ xs) first ∙ ap (λ zs. y ∷ zs) rest.same; rest = rest.rest }

-- what a group of another kind begins with
passes : {X : Type 0} (make : X → ProofRecord) (p : ProofRecord → Bool) → ((x : X) → p (make x) ≡ false) → (xs : List X) (more : List ProofRecord)
    → starts p more ≡ false → starts p (map make xs ++ more) ≡ false
passes make p no_own [] more m = m
passes make p no_own (x ∷ xs) more m = no_own x

-- what stands behind a leaf's own numbers
record IsBehind (more : List ProofRecord) : Type 0 where
  u : starts is_u more ≡ false
  v : starts is_v more ≡ false
  a : starts is_a more ≡ false
  b : starts is_b more ≡ false

module _ (l : LeafOf) (more : List ProofRecord) where
  abbrev from_b : List ProofRecord
  from_b = map (λ x. B x) l.beta ++ more

  abbrev from_a : List ProofRecord
  from_a = map (λ x. A x) l.alpha ++ from_b

  abbrev from_v : List ProofRecord
  from_v = map (λ x. V x) l.v ++ from_a

  numbers_and : numbers_of l ++ more ≡ Leaf l.q ∷ (map (λ x. U x) l.u ++ from_v)
  numbers_and =
      let u = Leaf l.q ∷ map (λ x. U x) l.u in
      let v = map (λ x. V x) l.v in
      let a = map (λ x. A x) l.alpha in
      let b = map (λ x. B x) l.beta in
      append_assoc ((u ++ v) ++ a) b more ∙ append_assoc (u ++ v) a (b ++ more) ∙ append_assoc u v (a ++ (b ++ more))

numbers_same : (l m : LeafOf) (more other : List ProofRecord) → IsBehind more → IsBehind other → numbers_of l ++ more ≡ numbers_of m ++ other
    → IsSameItem l m more other
numbers_same l m more other x y e =
    let whole : Leaf l.q ∷ (map (λ x. U x) l.u ++ from_v l more) ≡ Leaf m.q ∷ (map (λ x. U x) m.u ++ from_v m other) =
    sym (numbers_and l more) ∙ e ∙ numbers_and m other in
    let first : Leaf l.q ≡ Leaf m.q = head_same (Leaf l.q) (Leaf m.q) (map (λ x. U x) l.u ++ from_v l more) (map (λ x. U x) m.u ++ from_v m other) whole in
    let q : l.q ≡ m.q = cc (first) in
    let us = group_same (λ x. U x) is_u (λ x. refl) (λ x y e. cc) l.u m.u (from_v l more) (from_v m other)
    (passes (λ x. V x) is_u (λ x. refl) l.v (from_a l more) (passes (λ x. A x) is_u (λ x. refl) l.alpha (from_b l more) (passes (λ x. B x) is_u (λ x. refl) l.beta more x.u)))
    (passes (λ x. V x) is_u (λ x. refl) m.v (from_a m other) (passes (λ x. A x) is_u (λ x. refl) m.alpha (from_b m other) (passes (λ x. B x) is_u (λ x. refl) m.beta other y.u)))
    (tail_same (Leaf l.q) (Leaf m.q) (map (λ x. U x) l.u ++ from_v l more) (map (λ x. U x) m.u ++ from_v m other) whole) in
    let vs = group_same (λ x. V x) is_v (λ x. refl) (λ x y e. cc) l.v m.v (from_a l more) (from_a m other)
    (passes (λ x. A x) is_v (λ x. refl) l.alpha (from_b l more) (passes (λ x. B x) is_v (λ x. refl) l.beta more x.v))
    (passes (λ x. A x) is_v (λ x. refl) m.alpha (from_b m other) (passes (λ x. B x) is_v (λ x. refl) m.beta other y.v)) us.rest in
    let alphas = group_same (λ x. A x) is_a (λ x. refl) (λ x y e. cc) l.alpha m.alpha (from_b l more) (from_b m other)
    (passes (λ x. B x) is_a (λ x. refl) l.beta more x.a) (passes (λ x. B x) is_a (λ x. refl) m.beta other y.a) vs.rest in
    let betas = group_same (λ x. B x) is_b (λ x. refl) (λ x y e. cc) l.beta m.beta more other x.b y.b alphas.rest in
    record { same = leaf_same l m q us.same vs.same alphas.same betas.same; rest = betas.rest }

close_behind : (more : List ProofRecord) → IsBehind (Close ∷ more)
close_behind more = record { u = refl; v = refl; a = refl; b = refl }

end_same : (bound limit : Bound) → end_of bound ≡ end_of limit → bound ≡ limit
end_same (AtLeast n) (AtLeast m) e = cc
end_same (AtLeast n) NoBound e = absurd (cc e)
end_same NoBound (AtLeast m) e = absurd (cc e)
end_same NoBound NoBound e = refl

abbrev is_last : ProofRecord → Bool
is_last (End n) = true
is_last Nothing = true
is_last _ = false

end_last : (bound : Bound) → is_last (end_of bound) ≡ true
end_last (AtLeast n) = refl
end_last NoBound = refl

-- equal first records are of one kind
apart : (p : ProofRecord → Bool) (records others : List ProofRecord) → starts p records ≡ true → starts p others ≡ false → records ≡ others → ⊥
apart p records others t f e = let both = ap (starts p) e in cc (t, f, both)

-- nodes whose records tell them apart, and don't begin as a last record does
module _ {N : Type 0} (records : N → List ProofRecord)
    (law : (n m : N) (more other : List ProofRecord) → records n ++ more ≡ records m ++ other → IsSameItem n m more other)
    (begins : (n : N) (more : List ProofRecord) → starts is_last (records n ++ more) ≡ false) where
  not_last : (n : N) (nodes : List N) (bound : Bound) → starts is_last (flat_map records (n ∷ nodes) ++ end_of bound ∷ []) ≡ false
  not_last n nodes bound =
      ap (starts is_last) (append_assoc (records n) (flat_map records nodes) (end_of bound ∷ [])) ∙ begins n (flat_map records nodes ++ end_of bound ∷ [])

  nodes_same : (nodes others : List N) (bound limit : Bound)
      → flat_map records nodes ++ end_of bound ∷ [] ≡ flat_map records others ++ end_of limit ∷ [] → (nodes ≡ others) × (bound ≡ limit)
  nodes_same [] [] bound limit e = (refl, end_same bound limit (head_same (end_of bound) (end_of limit) [] [] e))
  nodes_same [] (m ∷ others) bound limit e =
      absurd (apart is_last (end_of bound ∷ []) (flat_map records (m ∷ others) ++ end_of limit ∷ []) (end_last bound) (not_last m others limit) e)
  nodes_same (n ∷ nodes) [] bound limit e =
      absurd (apart is_last (end_of limit ∷ []) (flat_map records (n ∷ nodes) ++ end_of bound ∷ []) (end_last limit) (not_last n nodes bound) (sym e))
  nodes_same (n ∷ nodes) (m ∷ others) bound limit e =
      let mine = flat_map records nodes ++ end_of bound ∷ [] in
      let yours = flat_map records others ++ end_of limit ∷ [] in
      let first = law n m mine yours
      (sym (append_assoc (records n) (flat_map records nodes) (end_of bound ∷ [])) ∙ e ∙ append_assoc (records m) (flat_map records others) (end_of limit ∷ [])) in
      let rest = nodes_same nodes others bound limit first.rest in
      (ap (λ k. k ∷ nodes) first.same ∙ ap (λ ns. m ∷ ns) rest.0, rest.1)

abbrev is_split : ProofRecord → Bool
is_split (Split x) = true
is_split _ = false

cuts_same : (a b : Cut) (more other : List ProofRecord) → Split a ∷ more ≡ Split b ∷ other → IsSameItem a b more other
cuts_same a b more other e =
    let first : Split a ≡ Split b = head_same (Split a) (Split b) more other e in
    record { same = cc (first); rest = tail_same (Split a) (Split b) more other e }

leaf_and : (l : LeafOf) (more : List ProofRecord) → node_records (LeafNode l) ++ more ≡ numbers_of l ++ Close ∷ more
leaf_and l more = append_assoc (numbers_of l) (Close ∷ []) more

node_law : (n m : Node) (more other : List ProofRecord) → node_records n ++ more ≡ node_records m ++ other → IsSameItem n m more other
node_law (SplitNode a) (SplitNode b) more other e =
    let cuts = cuts_same a b more other e in record { same = ap (λ c. SplitNode c) cuts.same; rest = cuts.rest }
node_law (SplitNode a) (LeafNode m) more other e = absurd (apart is_split (Split a ∷ more) (node_records (LeafNode m) ++ other) refl refl e)
node_law (LeafNode l) (SplitNode b) more other e = absurd (apart is_split (Split b ∷ other) (node_records (LeafNode l) ++ more) refl refl (sym e))
node_law (LeafNode l) (LeafNode m) more other e =
    let leaf = numbers_same l m (Close ∷ more) (Close ∷ other) (close_behind more) (close_behind other) (sym (leaf_and l more) ∙ e ∙ leaf_and m other) in
    record { same = ap (λ k. LeafNode k) leaf.same; rest = tail_same Close Close more other leaf.rest }

node_begins : (n : Node) (more : List ProofRecord) → starts is_last (node_records n ++ more) ≡ false
node_begins (SplitNode a) more = refl
node_begins (LeafNode l) more = refl

trains_in : ProofRecord → ℕ
trains_in (Head x) = x.trains
trains_in _ = 0

head_trains : (version trains others : ℕ) → Head (record { version = version; trains = trains }) ≡ Head (record { version = version; trains = others }) → trains ≡ others
unfolding trains_in
head_trains version trains others e = ap trains_in e

pub proofs_same : (trains others : ℕ) (nodes more : List Node) (bound limit : Bound) → proof_text trains nodes bound ≡ proof_text others more limit
    → (trains ≡ others) × (nodes ≡ more) × (bound ≡ limit)
unfolding proof_records
proofs_same trains others nodes more bound limit e =
    let mine = flat_map node_records nodes ++ end_of bound ∷ [] in
    let yours = flat_map node_records more ++ end_of limit ∷ [] in
    let head = Head (record { version = 1; trains = trains }) in
    let other = Head (record { version = 1; trains = others }) in
    let records = texts_same (proof_records trains nodes bound) (proof_records others more limit) e in
    let rest = nodes_same node_records node_law node_begins nodes more bound limit (tail_same head other mine yours records) in
    (head_trains 1 trains others (head_same head other mine yours records), rest.0, rest.1)

-- the same of shared trees
uses_behind : (uses : List UseOf) (more : List ProofRecord) → IsBehind (map (λ x. Use x) uses ++ Close ∷ more)
uses_behind uses more = record {
  u = passes (λ x. Use x) is_u (λ x. refl) uses (Close ∷ more) refl;
  v = passes (λ x. Use x) is_v (λ x. refl) uses (Close ∷ more) refl;
  a = passes (λ x. Use x) is_a (λ x. refl) uses (Close ∷ more) refl;
  b = passes (λ x. Use x) is_b (λ x. refl) uses (Close ∷ more) refl;
}

shared_leaf_and : (l : SharedLeaf) (more : List ProofRecord)
    → shared_node_records (SharedLeafNode l) ++ more ≡ numbers_of l.rest ++ (map (λ x. Use x) l.uses ++ Close ∷ more)
shared_leaf_and l more =
    append_assoc (numbers_of l.rest ++ map (λ x. Use x) l.uses) (Close ∷ []) more
    ∙ append_assoc (numbers_of l.rest) (map (λ x. Use x) l.uses) (Close ∷ more)

shared_node_law : (n m : SharedNode) (more other : List ProofRecord) → shared_node_records n ++ more ≡ shared_node_records m ++ other → IsSameItem n m more other
shared_node_law (SharedSplit a) (SharedSplit b) more other e =
    let cuts = cuts_same a b more other e in record { same = ap (λ c. SharedSplit c) cuts.same; rest = cuts.rest }
shared_node_law (SharedSplit a) (SharedLeafNode m) more other e =
    absurd (apart is_split (Split a ∷ more) (shared_node_records (SharedLeafNode m) ++ other) refl refl e)
shared_node_law (SharedLeafNode l) (SharedSplit b) more other e =
    absurd (apart is_split (Split b ∷ other) (shared_node_records (SharedLeafNode l) ++ more) refl refl (sym e))
shared_node_law (SharedLeafNode l) (SharedLeafNode m) more other e =
    let numbers = numbers_same l.rest m.rest (map (λ x. Use x) l.uses ++ Close ∷ more) (map (λ x. Use x) m.uses ++ Close ∷ other)
    (uses_behind l.uses more) (uses_behind m.uses other) (sym (shared_leaf_and l more) ∙ e ∙ shared_leaf_and m other) in
    let uses = group_same (λ x. Use x) is_use (λ x. refl) (λ x y e. cc) l.uses m.uses (Close ∷ more) (Close ∷ other) refl refl numbers.rest in
    let leaf = shared_leaf_same l m numbers.same uses.same in
    record { same = ap (λ k. SharedLeafNode k) leaf; rest = tail_same Close Close more other uses.rest }

shared_node_begins : (n : SharedNode) (more : List ProofRecord) → starts is_last (shared_node_records n ++ more) ≡ false
shared_node_begins (SharedSplit a) more = refl
shared_node_begins (SharedLeafNode l) more = refl

-- what stands behind the tables
record IsBehindTables (more : List ProofRecord) : Type 0 where
  table : starts is_table more ≡ false
  ta : starts is_ta more ≡ false
  tb : starts is_tb more ≡ false

tree_behind : (nodes : List SharedNode) (bound : Bound) → IsBehindTables (flat_map shared_node_records nodes ++ end_of bound ∷ [])
tree_behind [] (AtLeast n) = record { table = refl; ta = refl; tb = refl }
tree_behind [] NoBound = record { table = refl; ta = refl; tb = refl }
tree_behind (SharedSplit cut ∷ nodes) bound = record { table = refl; ta = refl; tb = refl }
tree_behind (SharedLeafNode l ∷ nodes) bound = record { table = refl; ta = refl; tb = refl }

tables_start : (p : ProofRecord → Bool) (number : ℕ) (tables : List PotTable) (more : List ProofRecord)
    → ((t : PotTable) → p (Table (record { table = number; first = t.first; second = t.second })) ≡ false) → starts p more ≡ false
    → starts p (tables_from number tables ++ more) ≡ false
tables_start p number [] more other m = m
tables_start p number (t ∷ tables) more other m = other t

pair_in : ProofRecord → ℕ × ℕ
pair_in (Table x) = (x.first, x.second)
pair_in _ = (0, 0)

heads_same : (number : ℕ) (t s : PotTable)
    → Table (record { table = number; first = t.first; second = t.second }) ≡ Table (record { table = number; first = s.first; second = s.second })
    → (t.first ≡ s.first) × (t.second ≡ s.second)
unfolding pair_in
heads_same number t s e = (ap (λ r. (pair_in r).0) e, ap (λ r. (pair_in r).1) e)

table_and : (number : ℕ) (t : PotTable) (tables : List PotTable) (more : List ProofRecord)
    → tables_from number (t ∷ tables) ++ more
    ≡ Table (record { table = number; first = t.first; second = t.second })
    ∷ (map (λ x. Ta x) t.alpha ++ (map (λ x. Tb x) t.beta ++ (tables_from (suc number) tables ++ more)))
table_and number t tables more =
    let head = Table (record { table = number; first = t.first; second = t.second }) in
    append_assoc (table_records number t) (tables_from (suc number) tables) more
    ∙ append_assoc (head ∷ map (λ x. Ta x) t.alpha) (map (λ x. Tb x) t.beta) (tables_from (suc number) tables ++ more)

tables_same : (number : ℕ) (tables others : List PotTable) (more other : List ProofRecord) → IsBehindTables more → IsBehindTables other
    → tables_from number tables ++ more ≡ tables_from number others ++ other → IsSameItem tables others more other
tables_same number [] [] more other m o e = record { same = refl; rest = e }
tables_same number [] (s ∷ others) more other m o e = absurd (apart is_table (tables_from number (s ∷ others) ++ other) more refl m.table (sym e))
tables_same number (t ∷ tables) [] more other m o e = absurd (apart is_table (tables_from number (t ∷ tables) ++ more) other refl o.table e)
tables_same number (t ∷ tables) (s ∷ others) more other m o e =
    let mine = tables_from (suc number) tables ++ more in
    let yours = tables_from (suc number) others ++ other in
    let head = Table (record { table = number; first = t.first; second = t.second }) in
    let head_of_other = Table (record { table = number; first = s.first; second = s.second }) in
    let whole = sym (table_and number t tables more) ∙ e ∙ table_and number s others other in
    let mine_from = map (λ x. Ta x) t.alpha ++ (map (λ x. Tb x) t.beta ++ mine) in
    let yours_from = map (λ x. Ta x) s.alpha ++ (map (λ x. Tb x) s.beta ++ yours) in
    let pairs = heads_same number t s (head_same head head_of_other mine_from yours_from whole) in
    let alphas = group_same (λ x. Ta x) is_ta (λ x. refl) (λ x y e. cc) t.alpha s.alpha (map (λ x. Tb x) t.beta ++ mine) (map (λ x. Tb x) s.beta ++ yours)
    (passes (λ x. Tb x) is_ta (λ x. refl) t.beta mine (tables_start is_ta (suc number) tables more (λ x. refl) m.ta))
    (passes (λ x. Tb x) is_ta (λ x. refl) s.beta yours (tables_start is_ta (suc number) others other (λ x. refl) o.ta))
    (tail_same head head_of_other mine_from yours_from whole) in
    let betas = group_same (λ x. Tb x) is_tb (λ x. refl) (λ x y e. cc) t.beta s.beta mine yours
    (tables_start is_tb (suc number) tables more (λ x. refl) m.tb) (tables_start is_tb (suc number) others other (λ x. refl) o.tb) alphas.rest in
    let rest = tables_same (suc number) tables others more other m o betas.rest in
    record {
      same = ap (λ k. k ∷ tables) (table_same t s pairs.0 pairs.1 alphas.same betas.same) ∙ ap (λ ts. s ∷ ts) rest.same;
      rest = rest.rest;
    }

pub shared_proofs_same : (trains others : ℕ) (tables rest : List PotTable) (nodes more : List SharedNode) (bound limit : Bound)
    → shared_text trains tables nodes bound ≡ shared_text others rest more limit
    → (trains ≡ others) × (tables ≡ rest) × (nodes ≡ more) × (bound ≡ limit)
unfolding shared_records
shared_proofs_same trains others tables rest nodes more bound limit e =
    let mine = flat_map shared_node_records nodes ++ end_of bound ∷ [] in
    let yours = flat_map shared_node_records more ++ end_of limit ∷ [] in
    let head = Head (record { version = 2; trains = trains }) in
    let other = Head (record { version = 2; trains = others }) in
    let records = texts_same (shared_records trains tables nodes bound) (shared_records others rest more limit) e in
    let whole = sym (append_assoc (head ∷ tables_from 0 tables) (flat_map shared_node_records nodes) (end_of bound ∷ [])) ∙ records
    ∙ append_assoc (other ∷ tables_from 0 rest) (flat_map shared_node_records more) (end_of limit ∷ []) in
    let parts = tables_same 0 tables rest mine yours (tree_behind nodes bound) (tree_behind more limit)
    (tail_same head other (tables_from 0 tables ++ mine) (tables_from 0 rest ++ yours) whole) in
    let last = nodes_same shared_node_records shared_node_law shared_node_begins nodes more bound limit parts.rest in
    (head_trains 2 trains others (head_same head other (tables_from 0 tables ++ mine) (tables_from 0 rest ++ yours) whole), parts.same, last.0, last.1)
