-- Texts of records, part by part.
use Rattle.std.proofs.Common.{◌≡◌, ℕ, zero, suc, ◌+◌, ◌<◌, true, List, [], ◌∷◌, ◌++◌, length, take, get_or, map, sym, ◌∙◌, ap, subst, arith, append_assoc, length-take-le, IsTrue}
use Rattle.std.specs.Prelude.{flat_map, Contains}
use Rattle.std.specs.List.{list_all}
use Rattle.std.proofs.lemmas.Bool.Decides.{nat_tests}
use Rattle.std.proofs.lemmas.List.{take_more, append-nil, map-append}
use Rattle.std.proofs.lemmas.List.Concat.{flat_map-append}
use Rattle.std.proofs.lemmas.List.Folds.{list_all-append}
use Rattle.leaf_bounds.specs.declared.leaf.Leaf.{Leaf}
use Rattle.leaf_bounds.specs.declared.shared.SharedLeaf.{SharedLeaf}
use Rattle.leaf_bounds.specs.declared.shared.SharedNode.{SharedNode}
use Rattle.leaf_bounds.specs.declared.shared.SharedNode.TheVariants.{Leaf as SharedLeafNode}
use Rattle.leaf_bounds.specs.declared.tree.Bound.{Bound}
use Rattle.leaf_bounds.specs.declared.tree.Node.{Node}
use Rattle.proof_file.proofs.TruthLemmas.{and_parts}
use Rattle.proof_file.specs.declared.record.ProofRecord.{ProofRecord}
use Rattle.proof_file.specs.declared.record.ProofRecord.TheVariants.{Leaf as LeafRecord, U, V, A, B, Ta, Tb, Use, Close, Head, Table}
use Rattle.proof_file.specs.Kind.{line_of, is_in_range}
use Rattle.leaf_bounds.specs.declared.table.PotTable.{PotTable}
use Rattle.proof_file.specs.Text.{AreInRange, end_of, node_records, numbers_of, proof_records, proof_text, shared_node_records, shared_records, shared_text, table_records, tables_from, text_of}

pub text_of-append : (records more : List ProofRecord) → text_of (records ++ more) ≡ text_of records ++ text_of more
text_of-append records more = flat_map-append line_of records more

pub in_range-parts : (records more : List ProofRecord) → AreInRange (records ++ more) → AreInRange records × AreInRange more
in_range-parts records more h = and_parts (list_all is_in_range records) (list_all is_in_range more) (sym (list_all-append is_in_range records more) ∙ h)

-- the records of one of several items are in range
pub item_in_range : {X : Type 0} (f : X → List ProofRecord) (items : List X) (i : ℕ) (d : X) → i < length items → AreInRange (flat_map f items)
    → AreInRange (f (get_or items i d))
item_in_range f [] i d h r = absurd (omega (arith, h))
item_in_range f (x ∷ items) zero d h r = (in_range-parts (f x) (flat_map f items) r).0
item_in_range f (x ∷ items) (suc i) d h r = item_in_range f items i d (omega (arith, h)) (in_range-parts (f x) (flat_map f items) r).1

-- one item more was written
pub item_written : {X : Type 0} (f : X → List ProofRecord) (items : List X) (i : ℕ) (d : X) (old mid new : List ℕ) → i < length items
    → mid ≡ old ++ text_of (flat_map f (take i items)) → new ≡ mid ++ text_of (f (get_or items i d))
    → new ≡ old ++ text_of (flat_map f (take (i + 1) items))
item_written f items i d old mid new h e g =
    let item = get_or items i d in
    g ∙ ap (λ l. l ++ text_of (f item)) e ∙ append_assoc old (text_of (flat_map f (take i items))) (text_of (f item))
    ∙ ap (λ l. old ++ l)
    (sym (ap (λ l. text_of (flat_map f l)) (take_more items i d h)
    ∙ ap text_of (flat_map-append f (take i items) (item ∷ []) ∙ ap (λ l. flat_map f (take i items) ++ l) (append-nil (f item)))
    ∙ text_of-append (flat_map f (take i items)) (f item)))

-- one value's record more was written
pub value_written : {X : Type 0} (made : X → ProofRecord) (values : List X) (i : ℕ) (d : X) (old mid new : List ℕ) (r : ProofRecord) → i < length values
    → mid ≡ old ++ text_of (map made (take i values)) → new ≡ mid ++ line_of r → r ≡ made (get_or values i d)
    → new ≡ old ++ text_of (map made (take (i + 1) values))
value_written made values i d old mid new r h e g own =
    let last = made (get_or values i d) in
    g ∙ ap (λ l. l ++ line_of r) e ∙ append_assoc old (text_of (map made (take i values))) (line_of r)
    ∙ ap (λ s. old ++ (text_of (map made (take i values)) ++ line_of s)) own
    ∙ ap (λ l. old ++ l)
    (sym (ap (λ l. text_of (map made l)) (take_more values i d h)
    ∙ ap text_of (map-append made (take i values) (get_or values i d ∷ []))
    ∙ text_of-append (map made (take i values)) (last ∷ [])
    ∙ ap (λ l. text_of (map made (take i values)) ++ l) (append-nil (line_of last))))

-- tables, which are numbered upwards
tables_from-append : (number : ℕ) (tables more : List PotTable) → tables_from number (tables ++ more) ≡ tables_from number tables ++ tables_from (number + length tables) more
tables_from-append number [] more = ap (λ n. tables_from n more) (same number)
  where
    same : (n : ℕ) → n ≡ n + 0
    same n = omega arith
tables_from-append number (t ∷ tables) more =
    ap (λ l. table_records number t ++ l)
    (tables_from-append (suc number) tables more ∙ ap (λ n. tables_from (suc number) tables ++ tables_from n more) (same number (length tables)))
    ∙ sym (append_assoc (table_records number t) (tables_from (suc number) tables) (tables_from (number + suc (length tables)) more))
  where
    same : (n m : ℕ) → suc n + m ≡ n + suc m
    same n m = omega arith

pub table_in_range : (tables : List PotTable) (number i : ℕ) (d : PotTable) → i < length tables → AreInRange (tables_from number tables)
    → AreInRange (table_records (number + i) (get_or tables i d))
table_in_range [] number i d h r = absurd (omega (arith, h))
table_in_range (t ∷ tables) number zero d h r =
    let P : ℕ → Type 0 = λ n. AreInRange (table_records n t) in
    let same : number ≡ number + 0 = omega arith in
    subst P same (in_range-parts (table_records number t) (tables_from (suc number) tables) r).0
table_in_range (t ∷ tables) number (suc i) d h r =
    let P : ℕ → Type 0 = λ n. AreInRange (table_records n (get_or tables i d)) in
    let same : suc number + i ≡ number + suc i = omega arith in
    subst P same (table_in_range tables (suc number) i d (omega (arith, h)) (in_range-parts (table_records number t) (tables_from (suc number) tables) r).1)

pub table_written : (tables : List PotTable) (i : ℕ) (d : PotTable) (old mid new : List ℕ) → i < length tables
    → mid ≡ old ++ text_of (tables_from 0 (take i tables)) → new ≡ mid ++ text_of (table_records i (get_or tables i d))
    → new ≡ old ++ text_of (tables_from 0 (take (i + 1) tables))
table_written tables i d old mid new h e g =
    let t = get_or tables i d in
    let count : 0 + length (take i tables) ≡ i = omega (arith, length-take-le i tables (omega (arith, h))) in
    g ∙ ap (λ l. l ++ text_of (table_records i t)) e ∙ append_assoc old (text_of (tables_from 0 (take i tables))) (text_of (table_records i t))
    ∙ ap (λ l. old ++ l)
    (sym (ap (λ l. text_of (tables_from 0 l)) (take_more tables i d h)
    ∙ ap text_of (tables_from-append 0 (take i tables) (t ∷ [])
    ∙ ap (λ l. tables_from 0 (take i tables) ++ l) (append-nil (table_records (0 + length (take i tables)) t))
    ∙ ap (λ n. tables_from 0 (take i tables) ++ table_records n t) count)
    ∙ text_of-append (tables_from 0 (take i tables)) (table_records i t)))

-- a record that one of these values makes is in range
pub made_in_range : {X : Type 0} (made : X → ProofRecord) (values seen : List X) (x : X) (r : ProofRecord) → seen ≡ values → AreInRange (map made values)
    → Contains seen x → r ≡ made x → IsTrue (is_in_range r)
made_in_range made values seen x r same h c e =
    ap is_in_range (e ∙ ap made (sym c.2)) ∙ at made seen c.0 x (subst (λ l. AreInRange (map made l)) (sym same) h) c.1
  where
    at : {X : Type 0} (made : X → ProofRecord) (values : List X) (i : ℕ) (d : X) → AreInRange (map made values) → i < length values
        → is_in_range (made (get_or values i d)) ≡ true
    at made [] i d h l = absurd (omega (arith, l))
    at made (y ∷ values) zero d h l = (and_parts (is_in_range (made y)) (list_all is_in_range (map made values)) h).0
    at made (y ∷ values) (suc i) d h l = at made values i d (and_parts (is_in_range (made y)) (list_all is_in_range (map made values)) h).1 (omega (arith, l))

-- the parts of a leaf's numbers
pub record NumbersInRange (l : Leaf) : Type 0 where
  pub scale : IsTrue (is_in_range (LeafRecord l.q))
  pub u : AreInRange (map (λ x. U x) l.u)
  pub v : AreInRange (map (λ x. V x) l.v)
  pub alpha : AreInRange (map (λ x. A x) l.alpha)
  pub beta : AreInRange (map (λ x. B x) l.beta)

pub numbers_in_range : (l : Leaf) → AreInRange (numbers_of l) → NumbersInRange l
numbers_in_range l h =
    let scale = LeafRecord l.q ∷ [] in
    let u = map (λ x. U x) l.u in
    let v = map (λ x. V x) l.v in
    let alpha = map (λ x. A x) l.alpha in
    let beta = map (λ x. B x) l.beta in
    let one = in_range-parts (((LeafRecord l.q ∷ u) ++ v) ++ alpha) beta h in
    let two = in_range-parts ((LeafRecord l.q ∷ u) ++ v) alpha one.0 in
    let three = in_range-parts (LeafRecord l.q ∷ u) v two.0 in
    let four = and_parts (is_in_range (LeafRecord l.q)) (list_all is_in_range u) three.0 in
    record { scale = four.0; u = four.1; v = three.1; alpha = two.1; beta = one.1 }

-- the uses of a leaf of a shared tree
pub uses_in_range : (l : SharedLeaf) → AreInRange (shared_node_records (SharedLeafNode l)) → AreInRange (map (λ x. Use x) l.uses)
uses_in_range l h =
    (in_range-parts (numbers_of l.rest) (map (λ x. Use x) l.uses) (in_range-parts (numbers_of l.rest ++ map (λ x. Use x) l.uses) (Close ∷ []) h).0).1

-- the parts of a table
pub first_in_range : (number : ℕ) (t : PotTable) → AreInRange (table_records number t) → AreInRange (map (λ x. Ta x) t.alpha)
first_in_range number t h =
    let head = Table (record { table = number; first = t.first; second = t.second }) in
    let front = in_range-parts (head ∷ map (λ x. Ta x) t.alpha) (map (λ x. Tb x) t.beta) h in
    (and_parts (is_in_range head) (list_all is_in_range (map (λ x. Ta x) t.alpha)) front.0).1

pub second_in_range : (number : ℕ) (t : PotTable) → AreInRange (table_records number t) → AreInRange (map (λ x. Tb x) t.beta)
second_in_range number t h =
    (in_range-parts (Table (record { table = number; first = t.first; second = t.second }) ∷ map (λ x. Ta x) t.alpha) (map (λ x. Tb x) t.beta) h).1

pub table_fits : (number : ℕ) (t : PotTable) → AreInRange (table_records number t) → number < 65536
unfolding is_in_range
table_fits number t h = grind (arith, nat_tests)

-- the parts of proof files
pub record ProofInRange (trains : ℕ) (all : List Node) (bound : Bound) : Type 0 where
  pub head : IsTrue (is_in_range (Head (record { version = 1; trains = trains })))
  pub nodes : AreInRange (flat_map node_records all)
  pub last : IsTrue (is_in_range (end_of bound))

pub proof_in_range : (trains : ℕ) (all : List Node) (bound : Bound) → AreInRange (proof_records trains all bound) → ProofInRange trains all bound
unfolding proof_records
proof_in_range trains all bound h =
    let head = Head (record { version = 1; trains = trains }) in
    let whole = in_range-parts (head ∷ flat_map node_records all) (end_of bound ∷ []) h in
    let front = and_parts (is_in_range head) (list_all is_in_range (flat_map node_records all)) whole.0 in
    record { head = front.0; nodes = front.1; last = (and_parts (is_in_range (end_of bound)) true whole.1).0 }

pub record SharedInRange (trains : ℕ) (all_tables : List PotTable) (all : List SharedNode) (bound : Bound) : Type 0 where
  pub head : IsTrue (is_in_range (Head (record { version = 2; trains = trains })))
  pub tables : AreInRange (tables_from 0 all_tables)
  pub nodes : AreInRange (flat_map shared_node_records all)
  pub last : IsTrue (is_in_range (end_of bound))

pub shared_in_range : (trains : ℕ) (all_tables : List PotTable) (all : List SharedNode) (bound : Bound) → AreInRange (shared_records trains all_tables all bound)
    → SharedInRange trains all_tables all bound
unfolding shared_records
shared_in_range trains all_tables all bound h =
    let head = Head (record { version = 2; trains = trains }) in
    let whole = in_range-parts ((head ∷ tables_from 0 all_tables) ++ flat_map shared_node_records all) (end_of bound ∷ []) h in
    let most = in_range-parts (head ∷ tables_from 0 all_tables) (flat_map shared_node_records all) whole.0 in
    let front = and_parts (is_in_range head) (list_all is_in_range (tables_from 0 all_tables)) most.0 in
    record { head = front.0; tables = front.1; nodes = most.1; last = (and_parts (is_in_range (end_of bound)) true whole.1).0 }

last_line : (records : List ProofRecord) (last : ProofRecord) → text_of (records ++ last ∷ []) ≡ text_of records ++ line_of last
last_line records last = text_of-append records (last ∷ []) ∙ ap (λ l. text_of records ++ l) (append-nil (line_of last))

-- the texts as they are written
pub proof_written : (trains : ℕ) (all : List Node) (bound : Bound) (none head nodes whole : List ℕ) → none ≡ []
    → head ≡ none ++ line_of (Head (record { version = 1; trains = trains })) → nodes ≡ head ++ text_of (flat_map node_records all)
    → whole ≡ nodes ++ line_of (end_of bound) → whole ≡ proof_text trains all bound
unfolding proof_records
proof_written trains all bound none head nodes whole n h e w =
    let first = Head (record { version = 1; trains = trains }) in
    w ∙ ap (λ l. l ++ line_of (end_of bound)) (e ∙ ap (λ l. l ++ text_of (flat_map node_records all)) (h ∙ ap (λ l. l ++ line_of first) n))
    ∙ sym (last_line (first ∷ flat_map node_records all) (end_of bound))

pub shared_written : (trains : ℕ) (all_tables : List PotTable) (all : List SharedNode) (bound : Bound) (none head tables nodes whole : List ℕ) → none ≡ []
    → head ≡ none ++ line_of (Head (record { version = 2; trains = trains })) → tables ≡ head ++ text_of (tables_from 0 all_tables)
    → nodes ≡ tables ++ text_of (flat_map shared_node_records all)
    → whole ≡ nodes ++ line_of (end_of bound) → whole ≡ shared_text trains all_tables all bound
unfolding shared_records
shared_written trains all_tables all bound none head tables nodes whole n h t e w =
    let first = Head (record { version = 2; trains = trains }) in
    w ∙ ap (λ l. l ++ line_of (end_of bound))
    (e ∙ ap (λ l. l ++ text_of (flat_map shared_node_records all))
    (t ∙ ap (λ l. l ++ text_of (tables_from 0 all_tables)) (h ∙ ap (λ l. l ++ line_of first) n))
    ∙ sym (text_of-append (first ∷ tables_from 0 all_tables) (flat_map shared_node_records all)))
    ∙ sym (last_line ((first ∷ tables_from 0 all_tables) ++ flat_map shared_node_records all) (end_of bound))

pub shared_leaf_written : (l : SharedLeaf) (node : SharedNode) (old numbers uses whole : List ℕ) → node ≡ SharedLeafNode l
    → numbers ≡ old ++ text_of (numbers_of l.rest) → uses ≡ numbers ++ text_of (map (λ x. Use x) l.uses) → whole ≡ uses ++ line_of Close
    → whole ≡ old ++ text_of (shared_node_records node)
shared_leaf_written l node old numbers uses whole is n u w =
    let own = map (λ x. Use x) l.uses in
    w ∙ ap (λ t. t ++ line_of Close) (u ∙ ap (λ t. t ++ text_of own) n ∙ append_assoc old (text_of (numbers_of l.rest)) (text_of own)
    ∙ ap (λ t. old ++ t) (sym (text_of-append (numbers_of l.rest) own)))
    ∙ append_assoc old (text_of (numbers_of l.rest ++ own)) (line_of Close)
    ∙ ap (λ t. old ++ t) (sym (last_line (numbers_of l.rest ++ own) Close))
    ∙ ap (λ (m : SharedNode). old ++ text_of (shared_node_records m)) (sym is)
