-- What is wrong with a record after the records before it.
use Rattle.std.specs.Prelude.{ℕ, ◌^◌, ◌==◌, ◌&&◌, ◌||◌, not, Bool, true, false, nat_lt, nat_le, if◌then◌else◌, List, [], ◌∷◌, ◌++◌, length, Option, Some, None, Result, Ok, Err, ℤ, pos, int_lt, unsigned_abs}
use Rattle.std.specs.List.{list_all}
use Rattle.std.specs.Ordering.{int_eq}
use Rattle.patterns.specs.Book.{offers_of}
use Rattle.patterns.specs.Allowed.{Lists, list_of, part_below, part_from, full_lists}
use Rattle.pair_prices.specs.Case.{CaseRecord}
use Rattle.pair_prices.specs.Trains.{train_pairs}
use Rattle.leaf_bounds.specs.declared.number.TrainValue.{TrainValue}
use Rattle.leaf_bounds.specs.declared.number.MinuteValue.{MinuteValue}
use Rattle.leaf_bounds.specs.declared.number.PairValue.{PairValue}
use Rattle.leaf_bounds.specs.declared.number.NumberValue.{NumberValue}
use Rattle.leaf_bounds.specs.declared.uses.UseOf.{UseOf}
use Rattle.leaf_bounds.specs.declared.tree.Cut.{Cut}
use Rattle.leaf_bounds.specs.declared.tree.Bound.{Bound}
use Rattle.leaf_bounds.specs.declared.tree.Bound.TheVariants.{AtLeast, Nothing as NoBound}
use Rattle.leaf_bounds.specs.declared.check.LeafValue.{LeafValue}
use Rattle.leaf_bounds.specs.declared.check.LeafFault.{LeafFault}
use Rattle.leaf_bounds.specs.declared.check.LeafFault.TheVariants.{Pair as PairFault, Pattern as PatternFault}
use Rattle.leaf_bounds.specs.Group.{Group}
use Rattle.leaf_bounds.specs.Leaf.{LeafRecord, bound_of}
use Rattle.leaf_bounds.specs.Listed.{minute_key, pair_key}
use Rattle.leaf_bounds.specs.Shown.{record_of_lists}
use Rattle.leaf_bounds.specs.Expansion.{expansion, in_list}
use Rattle.leaf_bounds.specs.Tree.{lists_below, lists_from, lesser}
use Rattle.leaf_bounds.specs.Verdict.{verdict_of}
use Rattle.proof_file.specs.declared.record.ProofRecord.{ProofRecord}
use Rattle.proof_file.specs.declared.record.ProofRecord.TheVariants.{Head, Table, Ta, Tb, Split, Leaf, U, V, A, B, Use, Close, End, Nothing}

-- kinds of refusal, in their order; what concerns a line or the end of the bytes stands elsewhere
pub data Fault : Type 0 where
  place : Fault
  part : Fault
  pair : Fault
  pattern : Fault
  bound : Fault
  sum : Fault

-- a leaf whose `close` is still to come
pub record OpenLeaf : Type 0 where
  pub q : ℤ
  pub u : List TrainValue
  pub v : List MinuteValue
  pub alpha : List PairValue
  pub beta : List PairValue
  pub uses : List UseOf

-- what the records so far leave to do
pub record State : Type 0 where
  -- 0 before the first record
  pub version : ℕ
  pub tables : List Group
  -- a node was read, so no table is due
  pub is_tree : Bool
  -- the lists of the subtrees that are due, in their order
  pub due : List Lists
  pub leaf : Option OpenLeaf
  -- the least bound of the leaves so far
  pub least : Bound
  -- the last record was read
  pub is_over : Bool

abbrev pub start : State
start = record { version = 0; tables = []; is_tree = false; due = []; leaf = None; least = NoBound; is_over = false }

abbrev pub checked : Bool → State → Result State Fault
checked true s = Ok s
checked false s = Err place

abbrev pub is_none : {X : Type 0} → List X → Bool
is_none [] = true
is_none (x ∷ xs) = false

-- the key is above all before it
abbrev pub is_above : {X : Type 0} → (X → ℤ) → List X → X → Bool
is_above key xs x = list_all (λ y. int_lt (key y) (key x)) xs

abbrev pub is_some_value : ℤ → Bool
is_some_value z = nat_lt 0 (unsigned_abs z)

-- tables

abbrev pub tables_due : State → Bool
tables_due s = s.version == 2 && not s.is_tree

abbrev pub after_table : CaseRecord → State → ℕ → ℕ → ℕ → Result State Fault
after_table c s table first second =
    checked (tables_due s && table == length s.tables && nat_lt first second && nat_lt second (length c.book))
    (record s { tables = s.tables ++ record { first = first; second = second; alpha = []; beta = [] } ∷ [] })

abbrev pub alone : Option Group → Option (List Group)
alone None = None
alone (Some g) = Some (g ∷ [])

abbrev pub behind : Group → Option (List Group) → Option (List Group)
behind g None = None
behind g (Some gs) = Some (g ∷ gs)

-- the last of the tables, changed
abbrev pub with_last : (Group → Option Group) → List Group → Option (List Group)
with_last f [] = None
with_last f (g ∷ []) = alone (f g)
with_last f (g ∷ h ∷ gs) = behind g (with_last f (h ∷ gs))

abbrev pub with_alpha : CaseRecord → NumberValue → Group → Option Group
with_alpha c x g =
    if is_none g.beta && is_above (λ y. pos y.number) g.alpha x && is_some_value x.value && nat_lt x.number (length (offers_of c.book g.first))
    then Some (record g { alpha = g.alpha ++ x ∷ [] }) else None

abbrev pub with_beta : CaseRecord → NumberValue → Group → Option Group
with_beta c x g =
    if is_above (λ y. pos y.number) g.beta x && is_some_value x.value && nat_lt x.number (length (offers_of c.book g.second))
    then Some (record g { beta = g.beta ++ x ∷ [] }) else None

abbrev pub with_tables : State → Option (List Group) → Result State Fault
with_tables s None = Err place
with_tables s (Some gs) = checked (tables_due s) (record s { tables = gs })

-- splits

abbrev pub split_at : CaseRecord → State → Cut → Lists → List Lists → Result State Fault
split_at c s cut lists rest =
    if not (nat_lt cut.train (length c.book)) then Err place
    else if is_none (part_below cut.at (list_of lists cut.train)) || is_none (part_from cut.at (list_of lists cut.train)) then Err part
    else Ok (record s { is_tree = true; due = lists_below lists cut ∷ lists_from lists cut ∷ rest })

abbrev pub after_split : CaseRecord → State → Cut → Option OpenLeaf → List Lists → Result State Fault
after_split c s cut (Some l) due = Err place
after_split c s cut None [] = Err place
after_split c s cut None (lists ∷ rest) = split_at c s cut lists rest

-- leaves

abbrev pub after_leaf : State → ℤ → Option OpenLeaf → List Lists → Result State Fault
after_leaf s q (Some l) due = Err place
after_leaf s q None [] = Err place
after_leaf s q None (lists ∷ rest) =
    Ok (record s { is_tree = true; leaf = Some (record { q = q; u = []; v = []; alpha = []; beta = []; uses = [] }) })

abbrev pub first_of : List Lists → Lists
first_of [] = []
first_of (lists ∷ rest) = lists

-- the lists at the open leaf
abbrev pub here : State → Lists
here s = first_of s.due

abbrev pub add_u : CaseRecord → State → TrainValue → OpenLeaf → Result State Fault
add_u c s x l =
    checked (is_none l.v && is_none l.alpha && is_none l.beta && is_none l.uses && nat_lt x.train (length c.book) && is_some_value x.value
    && is_above (λ y. pos y.train) l.u x)
    (record s { leaf = Some (record l { u = l.u ++ x ∷ [] }) })

abbrev pub add_v : CaseRecord → State → MinuteValue → OpenLeaf → Result State Fault
add_v c s x l =
    checked (is_none l.alpha && is_none l.beta && is_none l.uses && nat_lt x.platform (length c.station.platforms) && is_some_value x.value
    && is_above minute_key l.v x)
    (record s { leaf = Some (record l { v = l.v ++ x ∷ [] }) })

-- the pair is there in order, and the entry is new
abbrev pub is_pair_due : CaseRecord → List PairValue → PairValue → Bool
is_pair_due c xs x =
    nat_lt x.first x.second && nat_lt x.second (length c.book) && is_some_value x.value && is_above (λ y. pos (pair_key y)) xs x

abbrev pub add_a : CaseRecord → State → PairValue → OpenLeaf → Result State Fault
add_a c s x l =
    checked (is_none l.beta && is_none l.uses && is_pair_due c l.alpha x && in_list (here s) x.first x.number)
    (record s { leaf = Some (record l { alpha = l.alpha ++ x ∷ [] }) })

abbrev pub add_b : CaseRecord → State → PairValue → OpenLeaf → Result State Fault
add_b c s x l =
    checked (is_none l.uses && is_pair_due c l.beta x && in_list (here s) x.second x.number)
    (record s { leaf = Some (record l { beta = l.beta ++ x ∷ [] }) })

-- the open leaf's numbers, with its uses
abbrev pub so_far : State → OpenLeaf → LeafRecord
so_far s l = expansion s.tables (here s) (record_of_lists l.q l.u l.v l.alpha l.beta) l.uses

abbrev pub is_small : ℤ → Bool
is_small z = nat_le (unsigned_abs z) (10 ^ 30)

-- no alpha and no beta at a number of the lists is above 10^30 in size
abbrev pub are_small : CaseRecord → Lists → LeafRecord → Bool
are_small c lists l =
    list_all (λ p. list_all (λ i. is_small (l.alpha p i)) (list_of lists p.first) && list_all (λ j. is_small (l.beta p j)) (list_of lists p.second))
    (train_pairs (length c.book))

abbrev pub with_use : CaseRecord → State → OpenLeaf → Result State Fault
with_use c s l = if are_small c (here s) (so_far s l) then Ok (record s { leaf = Some l }) else Err sum

abbrev pub add_use : CaseRecord → State → UseOf → OpenLeaf → Result State Fault
add_use c s x l =
    if nat_lt x.table (length s.tables) && is_above (λ y. pos y.table) l.uses x then with_use c s (record l { uses = l.uses ++ x ∷ [] }) else Err place

abbrev pub closed : CaseRecord → State → LeafRecord → Result LeafValue LeafFault → List Lists → Result State Fault
closed c s l (Err (PairFault x)) due = Err pair
closed c s l (Err (PatternFault x)) due = Err pattern
closed c s l (Ok value) [] = Err place
closed c s l (Ok value) (lists ∷ rest) = Ok (record s { leaf = None; due = rest; least = lesser s.least (bound_of c l) })

abbrev pub add_close : CaseRecord → State → OpenLeaf → Result State Fault
add_close c s l = closed c s (so_far s l) (verdict_of c (here s) (so_far s l)) s.due

abbrev pub by_leaf : Option OpenLeaf → (OpenLeaf → Result State Fault) → Result State Fault
by_leaf None f = Err place
by_leaf (Some l) f = f l

-- where a leaf is open
abbrev pub in_leaf : State → (OpenLeaf → Result State Fault) → Result State Fault
in_leaf s f = by_leaf s.leaf f

-- the end

abbrev pub same_bound : Bound → Bound → Bool
same_bound (AtLeast n) (AtLeast m) = int_eq n m
same_bound (AtLeast n) NoBound = false
same_bound NoBound (AtLeast m) = false
same_bound NoBound NoBound = true

abbrev pub is_leaf_open : Option OpenLeaf → Bool
is_leaf_open None = false
is_leaf_open (Some l) = true

abbrev pub after_end : State → Bound → Result State Fault
after_end s b =
    if s.version == 0 || is_leaf_open s.leaf || not (is_none s.due) then Err place
    else if same_bound s.least b then Ok (record s { is_over = true }) else Err bound

-- What a record leads to, or the least kind of refusal that holds there. After the last record none is asked for.
unfoldable pub after : CaseRecord → State → ProofRecord → Result State Fault
after c s (Head x) = checked (s.version == 0 && x.trains == length c.book) (record s { version = x.version; due = full_lists c.book ∷ [] })
after c s (Table x) = after_table c s x.table x.first x.second
after c s (Ta x) = with_tables s (with_last (with_alpha c x) s.tables)
after c s (Tb x) = with_tables s (with_last (with_beta c x) s.tables)
after c s (Split cut) = after_split c s cut s.leaf s.due
after c s (Leaf q) = after_leaf s q s.leaf s.due
after c s (U x) = in_leaf s (add_u c s x)
after c s (V x) = in_leaf s (add_v c s x)
after c s (A x) = in_leaf s (add_a c s x)
after c s (B x) = in_leaf s (add_b c s x)
after c s (Use x) = in_leaf s (add_use c s x)
after c s Close = in_leaf s (add_close c s)
after c s (End n) = after_end s (AtLeast n)
after c s Nothing = after_end s NoBound
