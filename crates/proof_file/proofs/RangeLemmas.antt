-- The records of a tree that can be written are in range.
use Rattle.std.proofs.Common.{◌≡◌, ℕ, zero, suc, ◌+◌, ◌<◌, ◌≤◌, ◌^◌, Bool, true, ◌&&◌, List, [], ◌∷◌, ◌++◌, length, map, Some, refl, ◌∙◌, ap, arith, IsTrue, ◌≤ℤ◌}
use Rattle.std.specs.Prelude.{ℤ, pos, negsuc, neg_ℤ, int_le, unsigned_abs, slice_get, flat_map}
use Rattle.std.specs.List.{list_all}
use Rattle.std.proofs.lemmas.Int.{ints}
use Rattle.std.proofs.lemmas.Bool.Decides.{nat_tests}
use Rattle.std.proofs.lemmas.List.Folds.{list_all-append}
use Rattle.record_table.specs.Line.{is_in_range as in_range}
use Rattle.leaf_bounds.specs.declared.number.TrainValue.{TrainValue}
use Rattle.leaf_bounds.specs.declared.number.MinuteValue.{MinuteValue}
use Rattle.leaf_bounds.specs.declared.number.PairValue.{PairValue}
use Rattle.leaf_bounds.specs.declared.number.NumberValue.{NumberValue}
use Rattle.leaf_bounds.specs.declared.uses.UseOf.{UseOf}
use Rattle.leaf_bounds.specs.declared.leaf.Leaf.{Leaf as LeafOf}
use Rattle.leaf_bounds.specs.declared.table.PotTable.{PotTable}
use Rattle.leaf_bounds.specs.declared.shared.SharedLeaf.{SharedLeaf}
use Rattle.leaf_bounds.specs.declared.shared.SharedNode.{SharedNode}
use Rattle.leaf_bounds.specs.declared.shared.SharedNode.TheVariants.{Split as SharedSplit, Leaf as SharedLeafNode}
use Rattle.leaf_bounds.specs.declared.tree.Bound.{Bound}
use Rattle.leaf_bounds.specs.declared.tree.Cut.{Cut}
use Rattle.leaf_bounds.specs.declared.tree.Node.{Node}
use Rattle.leaf_bounds.specs.declared.tree.Node.TheVariants.{Split as SplitNode, Leaf as LeafNode}
use Rattle.leaf_bounds.specs.Listed.{IsSmall, IsTrainValue, IsMinuteValue, IsPairValue}
use Rattle.proof_file.specs.declared.record.ProofRecord.{ProofRecord}
use Rattle.proof_file.specs.declared.record.ProofRecord.TheVariants.{Head, Table, Ta, Tb, Split, Leaf, U, V, A, B, Use, Close}
use Rattle.proof_file.specs.Kind.{range, signed_values, is_in_range}
use Rattle.proof_file.specs.Text.{AreInRange, end_of, node_records, numbers_of, proof_records, shared_node_records, shared_records, table_records, tables_from}
use Rattle.proof_file.specs.Writable.{IsCutInRange, IsUseInRange, IsNumberInRange, IsTableInRange, IsWritable, IsSharedWritable}

joined : (a b : Bool) → a ≡ true → b ≡ true → (a && b) ≡ true
joined a b e f = ap (λ c. c && b) e ∙ f

both_in_range : (records more : List ProofRecord) → AreInRange records → AreInRange more → AreInRange (records ++ more)
both_in_range records more h i =
    list_all-append is_in_range records more ∙ joined (list_all is_in_range records) (list_all is_in_range more) h i

record_and : (r : ProofRecord) (records : List ProofRecord) → IsTrue (is_in_range r) → AreInRange records → AreInRange (r ∷ records)
record_and r records h i = joined (is_in_range r) (list_all is_in_range records) h i

-- what is made of each value is in range
all_made : {X : Type 0} (make : X → ProofRecord) (xs : List X) → ((k : ℕ) (x : X) → slice_get xs k ≡ Some x → IsTrue (is_in_range (make x)))
    → AreInRange (map make xs)
all_made make [] h = refl
all_made make (x ∷ xs) h = record_and (make x) (map make xs) (h zero x refl) (all_made make xs (λ k y e. h (suc k) y e))

-- numbers in ranges
natural_fits : (n most : ℕ) → n ≤ most → in_range (range (pos 0) (pos most)) (pos n) ≡ true
natural_fits n most h = grind (arith, nat_tests)

size_fits : (z : ℤ) (n : ℕ) → unsigned_abs z ≤ n → in_range (range (neg_ℤ (pos n)) (pos n)) z ≡ true
size_fits (pos m) zero h = grind (arith, nat_tests)
size_fits (pos m) (suc n) h = grind (arith, nat_tests)
size_fits (negsuc m) zero h = absurd (omega (arith, h))
size_fits (negsuc m) (suc n) h = grind (arith, nat_tests)

value_fits : (z : ℤ) → IsSmall z → in_range signed_values z ≡ true
value_fits z h = size_fits z (10 ^ 30) h

between_fits : (least most z : ℤ) → least ≤ℤ z → z ≤ℤ most → in_range (range least most) z ≡ true
between_fits least most z h i = joined (int_le least z) (int_le z most) (le_true least z h) (le_true z most i)
  where
    le_true : (a b : ℤ) → a ≤ℤ b → int_le a b ≡ true
    le_true a b l = grind (arith, ints, nat_tests)

-- records
train_fits : (x : TrainValue) → IsTrainValue x → IsTrue (is_in_range (U x))
unfolding is_in_range
train_fits x h = joined (in_range (range (pos 0) (pos 199)) (pos x.train)) (in_range signed_values x.value && true)
    (natural_fits x.train 199 (omega (arith, h.train))) (joined (in_range signed_values x.value) true (value_fits x.value h.value) refl)

minute_fits : (x : MinuteValue) → IsMinuteValue x → IsTrue (is_in_range (V x))
unfolding is_in_range
minute_fits x h =
    let minute = in_range (range (neg_ℤ (pos 30)) (pos 2968)) x.minute in
    let value = in_range (range (pos 1) (pos (10 ^ 30))) x.value in
    joined (in_range (range (pos 0) (pos 63)) (pos x.platform)) (minute && (value && true)) (natural_fits x.platform 63 (omega (arith, h.platform)))
    (joined minute (value && true) (between_fits (neg_ℤ (pos 30)) (pos 2968) x.minute h.first h.last)
    (joined value true (between_fits (pos 1) (pos (10 ^ 30)) x.value h.some h.value) refl))

pair_fits : (x : PairValue) → IsPairValue x → (in_range (range (pos 0) (pos 199)) (pos x.first) && (in_range (range (pos 0) (pos 199)) (pos x.second)
    && (in_range (range (pos 0) (pos 4095)) (pos x.number) && (in_range signed_values x.value && true)))) ≡ true
pair_fits x h =
    let first = in_range (range (pos 0) (pos 199)) (pos x.first) in
    let second = in_range (range (pos 0) (pos 199)) (pos x.second) in
    let number = in_range (range (pos 0) (pos 4095)) (pos x.number) in
    let value = in_range signed_values x.value in
    joined first (second && (number && (value && true))) (natural_fits x.first 199 (omega (arith, h.first)))
    (joined second (number && (value && true)) (natural_fits x.second 199 (omega (arith, h.second)))
    (joined number (value && true) (natural_fits x.number 4095 (omega (arith, h.number))) (joined value true (value_fits x.value h.value) refl)))

first_fits : (x : PairValue) → IsPairValue x → IsTrue (is_in_range (A x))
unfolding is_in_range
first_fits x h = pair_fits x h

second_fits : (x : PairValue) → IsPairValue x → IsTrue (is_in_range (B x))
unfolding is_in_range
second_fits x h = pair_fits x h

number_fits : (x : NumberValue) → IsNumberInRange x
    → (in_range (range (pos 0) (pos 4095)) (pos x.number) && (in_range signed_values x.value && true)) ≡ true
number_fits x h =
    joined (in_range (range (pos 0) (pos 4095)) (pos x.number)) (in_range signed_values x.value && true)
    (natural_fits x.number 4095 (omega (arith, h.number))) (joined (in_range signed_values x.value) true (value_fits x.value h.value) refl)

ta_fits : (x : NumberValue) → IsNumberInRange x → IsTrue (is_in_range (Ta x))
unfolding is_in_range
ta_fits x h = number_fits x h

tb_fits : (x : NumberValue) → IsNumberInRange x → IsTrue (is_in_range (Tb x))
unfolding is_in_range
tb_fits x h = number_fits x h

use_fits : (x : UseOf) → IsUseInRange x → IsTrue (is_in_range (Use x))
unfolding is_in_range
use_fits x h =
    let factor = in_range (range (pos 1) (pos (10 ^ 18))) x.factor in
    joined (in_range (range (pos 0) (pos 65535)) (pos x.table)) (factor && true) (natural_fits x.table 65535 (omega (arith, h.table)))
    (joined factor true (between_fits (pos 1) (pos (10 ^ 18)) x.factor h.least h.most) refl)

cut_fits : (x : Cut) → IsCutInRange x → IsTrue (is_in_range (Split x))
unfolding is_in_range
cut_fits x h =
    let at = in_range (range (pos 0) (pos 4095)) (pos x.at) in
    joined (in_range (range (pos 0) (pos 199)) (pos x.train)) (at && true) (natural_fits x.train 199 (omega (arith, h.train)))
    (joined at true (natural_fits x.at 4095 (omega (arith, h.at))) refl)

scale_fits : (l : LeafOf) → IsTrue (is_in_range (Leaf l.q))
unfolding is_in_range
scale_fits l =
    joined (in_range (range (pos 1) (pos (10 ^ 18))) l.q) true (between_fits (pos 1) (pos (10 ^ 18)) l.q l.kept.q_least l.kept.q_most) refl

close_fits : IsTrue (is_in_range Close)
unfolding is_in_range
close_fits = refl

head_fits : (version trains : ℕ) → 1 ≤ version → version ≤ 2 → trains ≤ 200 → IsTrue (is_in_range (Head (record { version = version; trains = trains })))
unfolding is_in_range
head_fits version trains h i j =
    let count = in_range (range (pos 0) (pos 200)) (pos trains) in
    joined (in_range (range (pos 1) (pos 2)) (pos version)) (count && true) (between version h i) (joined count true (natural_fits trains 200 j) refl)
  where
    between : (n : ℕ) → 1 ≤ n → n ≤ 2 → in_range (range (pos 1) (pos 2)) (pos n) ≡ true
    between n l m = grind (arith, nat_tests)

table_fits : (number : ℕ) (t : PotTable) → number < 65536 → IsTableInRange t
    → IsTrue (is_in_range (Table (record { table = number; first = t.first; second = t.second })))
unfolding is_in_range
table_fits number t h i =
    let first = in_range (range (pos 0) (pos 199)) (pos t.first) in
    let second = in_range (range (pos 0) (pos 199)) (pos t.second) in
    joined (in_range (range (pos 0) (pos 65535)) (pos number)) (first && (second && true)) (natural_fits number 65535 (omega (arith, h)))
    (joined first (second && true) (natural_fits t.first 199 (omega (arith, t.kept.order, i.second)))
    (joined second true (natural_fits t.second 199 (omega (arith, i.second))) refl))

-- leaves and tables
leaf_fits : (l : LeafOf) → AreInRange (numbers_of l)
leaf_fits l =
    let u = map (λ x. U x) l.u in
    let v = map (λ x. V x) l.v in
    let a = map (λ x. A x) l.alpha in
    let b = map (λ x. B x) l.beta in
    both_in_range (((Leaf l.q ∷ u) ++ v) ++ a) b
    (both_in_range ((Leaf l.q ∷ u) ++ v) a
    (both_in_range (Leaf l.q ∷ u) v
    (record_and (Leaf l.q) u (scale_fits l) (all_made (λ x. U x) l.u (λ k x e. train_fits x (l.kept.u_each k x e))))
    (all_made (λ x. V x) l.v (λ k x e. minute_fits x (l.kept.v_each k x e))))
    (all_made (λ x. A x) l.alpha (λ k x e. first_fits x (l.kept.alpha_each k x e))))
    (all_made (λ x. B x) l.beta (λ k x e. second_fits x (l.kept.beta_each k x e)))

one_table_fits : (number : ℕ) (t : PotTable) → number < 65536 → IsTableInRange t → AreInRange (table_records number t)
one_table_fits number t h i =
    let head = Table (record { table = number; first = t.first; second = t.second }) in
    both_in_range (head ∷ map (λ x. Ta x) t.alpha) (map (λ x. Tb x) t.beta)
    (record_and head (map (λ x. Ta x) t.alpha) (table_fits number t h i) (all_made (λ x. Ta x) t.alpha (λ k x e. ta_fits x (i.alpha k x e))))
    (all_made (λ x. Tb x) t.beta (λ k x e. tb_fits x (i.beta k x e)))

tables_fit : (number : ℕ) (tables : List PotTable) → number + length tables ≤ 65536
    → ((k : ℕ) (t : PotTable) → slice_get tables k ≡ Some t → IsTableInRange t) → AreInRange (tables_from number tables)
tables_fit number [] h each = refl
tables_fit number (t ∷ tables) h each =
    both_in_range (table_records number t) (tables_from (suc number) tables) (one_table_fits number t (omega (arith, h)) (each zero t refl))
    (tables_fit (suc number) tables (omega (arith, h)) (λ k s e. each (suc k) s e))

-- trees
nodes_fit : (nodes : List Node) → ((k : ℕ) (cut : Cut) → slice_get nodes k ≡ Some (SplitNode cut) → IsCutInRange cut)
    → AreInRange (flat_map node_records nodes)
nodes_fit [] cuts = refl
nodes_fit (SplitNode cut ∷ nodes) cuts =
    record_and (Split cut) (flat_map node_records nodes) (cut_fits cut (cuts zero cut refl)) (nodes_fit nodes (λ k c e. cuts (suc k) c e))
nodes_fit (LeafNode l ∷ nodes) cuts =
    both_in_range (numbers_of l ++ Close ∷ []) (flat_map node_records nodes)
    (both_in_range (numbers_of l) (Close ∷ []) (leaf_fits l) (record_and Close [] close_fits refl)) (nodes_fit nodes (λ k c e. cuts (suc k) c e))

shared_nodes_fit : (nodes : List SharedNode) → ((k : ℕ) (cut : Cut) → slice_get nodes k ≡ Some (SharedSplit cut) → IsCutInRange cut)
    → ((k : ℕ) (l : SharedLeaf) → slice_get nodes k ≡ Some (SharedLeafNode l) → (i : ℕ) (x : UseOf) → slice_get l.uses i ≡ Some x → IsUseInRange x)
    → AreInRange (flat_map shared_node_records nodes)
shared_nodes_fit [] cuts uses = refl
shared_nodes_fit (SharedSplit cut ∷ nodes) cuts uses =
    record_and (Split cut) (flat_map shared_node_records nodes) (cut_fits cut (cuts zero cut refl))
    (shared_nodes_fit nodes (λ k c e. cuts (suc k) c e) (λ k l e. uses (suc k) l e))
shared_nodes_fit (SharedLeafNode l ∷ nodes) cuts uses =
    let own = map (λ x. Use x) l.uses in
    both_in_range ((numbers_of l.rest ++ own) ++ Close ∷ []) (flat_map shared_node_records nodes)
    (both_in_range (numbers_of l.rest ++ own) (Close ∷ [])
    (both_in_range (numbers_of l.rest) own (leaf_fits l.rest) (all_made (λ x. Use x) l.uses (λ k x e. use_fits x (uses zero l refl k x e))))
    (record_and Close [] close_fits refl))
    (shared_nodes_fit nodes (λ k c e. cuts (suc k) c e) (λ k m e. uses (suc k) m e))

pub tree_is_in_range : (trains : ℕ) (nodes : List Node) (bound : Bound) → IsWritable trains nodes bound → AreInRange (proof_records trains nodes bound)
unfolding proof_records
tree_is_in_range trains nodes bound w =
    let head = Head (record { version = 1; trains = trains }) in
    both_in_range (head ∷ flat_map node_records nodes) (end_of bound ∷ [])
    (record_and head (flat_map node_records nodes) (head_fits 1 trains (omega arith) (omega arith) w.few) (nodes_fit nodes w.cuts))
    (record_and (end_of bound) [] w.last refl)

pub shared_tree_is_in_range : (trains : ℕ) (tables : List PotTable) (nodes : List SharedNode) (bound : Bound) → IsSharedWritable trains tables nodes bound
    → AreInRange (shared_records trains tables nodes bound)
unfolding shared_records
shared_tree_is_in_range trains tables nodes bound w =
    let head = Head (record { version = 2; trains = trains }) in
    let count : 0 + length tables ≤ 65536 = omega (arith, w.few_tables) in
    both_in_range ((head ∷ tables_from 0 tables) ++ flat_map shared_node_records nodes) (end_of bound ∷ [])
    (both_in_range (head ∷ tables_from 0 tables) (flat_map shared_node_records nodes)
    (record_and head (tables_from 0 tables) (head_fits 2 trains (omega arith) (omega arith) w.few) (tables_fit 0 tables count w.each_table))
    (shared_nodes_fit nodes w.cuts w.uses))
    (record_and (end_of bound) [] w.last refl)
