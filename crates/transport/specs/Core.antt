-- What the parts of the search keep. Potentials are kept lifted by 10^13, so that they are natural numbers.
use Rattle.std.specs.Prelude.{◌≡◌, ℕ, ◌<◌, ◌≤◌, ◌+◌, ◌*◌, Bool, true, false, List, length, slice_index, slice_index_or, if◌then◌else◌, ◌==◌, sum_by, map, replicate, count_by, not, ◌⊎◌, ◌^◌, sum, ◌-◌}
use Rattle.transport.specs.declared.search.Mark.{Mark}
use Rattle.transport.specs.declared.entries.Entry.{Entry}

-- a cost, lifted as the two potentials together
abbrev pub lifted : (ℕ → ℕ → ℕ) → ℕ → ℕ → ℕ
lifted t i j = t i j + 20000000000000

abbrev pub no_mark : Mark
no_mark = record { order = 0; parent = 0; entry = 0; room = 0 }

-- how row i was reached
abbrev pub mark_at : List Mark → ℕ → Mark
mark_at ms i = slice_index_or ms i no_mark

-- row i was reached
abbrev pub IsReached : List Mark → ℕ → Type 0
IsReached ms i = 0 < (mark_at ms i).order

-- column j is inside
abbrev pub is_inside : List Bool → ℕ → Bool
is_inside bs j = slice_index_or bs j true

abbrev pub no_entry : Entry
no_entry = record { row = 0; column = 0; weight = 0 }

-- the entry at place k
abbrev pub entry_at : List Entry → ℕ → Entry
entry_at es k = slice_index_or es k no_entry

-- what is placed in row i
abbrev pub row_weight : List Entry → ℕ → ℕ
row_weight es i = sum_by (λ e. if e.row == i then e.weight else 0) es

-- what is placed in column j
abbrev pub column_weight : List Entry → ℕ → ℕ
column_weight es j = sum_by (λ e. if e.column == j then e.weight else 0) es

-- what the entries cost
abbrev pub cost_in : (ℕ → ℕ → ℕ) → List Entry → ℕ
cost_in t es = sum_by (λ e. t e.row e.column * e.weight) es

-- the potentials of row i and column j reach the cost
abbrev pub IsTight : (ℕ → ℕ → ℕ) → List ℕ → List ℕ → ℕ → ℕ → Type 0
IsTight t rows columns i j = slice_index rows i + slice_index columns j ≡ lifted t i j

-- no two potentials pass a cost
abbrev pub IsFeasible : (ℕ → ℕ → ℕ) → List ℕ → List ℕ → Type 0
IsFeasible t rows columns =
    (i j : ℕ) → i < length rows → j < length columns → slice_index rows i + slice_index columns j ≤ lifted t i j

-- the entry is in the table, and tight where it has weight
pub record IsPlaced (t : ℕ → ℕ → ℕ) (rows columns : List ℕ) (e : Entry) : Type 0 where
  pub row : e.row < length rows
  pub column : e.column < length columns
  pub tight : 0 < e.weight → IsTight t rows columns e.row e.column

-- no two potentials pass a cost, all entries are tight, and a column that wants weight was never lowered below 0
pub record ArePotentials (t : ℕ → ℕ → ℕ) (rows columns : List ℕ) (es : List Entry) (demand : List ℕ) : Type 0 where
  pub feasible : (i j : ℕ) → i < length rows → j < length columns → slice_index rows i + slice_index columns j ≤ lifted t i j
  pub placed : (k : ℕ) → k < length es → IsPlaced t rows columns (entry_at es k)
  pub caps : (i : ℕ) → i < length rows → slice_index rows i ≤ 20000000000000
  pub column_caps : (j : ℕ) → j < length columns → slice_index columns j ≤ 20000000000000
  pub wanting : (j : ℕ) → j < length columns → 0 < slice_index demand j → 10000000000000 ≤ slice_index columns j

-- the mark x of row i, other than the root's, leads to a parent that was reached before
pub record IsLink (t : ℕ → ℕ → ℕ) (rows columns : List ℕ) (es : List Entry) (ms : List Mark) (inside : List Bool) (i : ℕ) (x : Mark) : Type 0 where
  pub parent : x.parent < length rows
  pub reached : IsReached ms x.parent
  pub before : (mark_at ms x.parent).order < x.order
  pub entry : x.entry < length es
  pub row : (entry_at es x.entry).row ≡ i
  pub weight : x.room ≤ (entry_at es x.entry).weight
  pub room : x.room ≤ (mark_at ms x.parent).room
  pub entered : is_inside inside (entry_at es x.entry).column ≡ true
  pub tight : IsTight t rows columns x.parent (entry_at es x.entry).column

-- the mark x of a reached row i
pub record IsMark (t : ℕ → ℕ → ℕ) (rows columns : List ℕ) (es : List Entry) (root supply : ℕ) (ms : List Mark) (inside : List Bool) (i : ℕ) (x : Mark) : Type 0 where
  pub room : 0 < x.room
  pub limit : x.room ≤ supply
  pub is_root : x.order ≡ 1 → i ≡ root
  pub link : 1 < x.order → IsLink t rows columns es ms inside i x

abbrev pub AreMarks : (ℕ → ℕ → ℕ) → List ℕ → List ℕ → List Entry → ℕ → ℕ → List Mark → List Bool → Type 0
AreMarks t rows columns es root supply ms inside =
    (i : ℕ) → i < length rows → IsReached ms i → IsMark t rows columns es root supply ms inside i (mark_at ms i)

-- row v is a reached row with the least slack to column j
pub record IsNearest (t : ℕ → ℕ → ℕ) (rows : List ℕ) (ms : List Mark) (j v : ℕ) : Type 0 where
  pub row : v < length rows
  pub reached : IsReached ms v
  pub least : (i : ℕ) → i < length rows → IsReached ms i → t v j + slice_index rows i ≤ t i j + slice_index rows v

-- each row with weight in a column inside is reached; of column j only by the entries before the place bound
abbrev pub IsClosed : List Entry → List Mark → List Bool → ℕ → ℕ → Type 0
IsClosed es ms inside j bound =
    (k : ℕ) → k < length es → 0 < (entry_at es k).weight → is_inside inside (entry_at es k).column ≡ true → ((entry_at es k).column ≡ j → k < bound) → IsReached ms (entry_at es k).row

-- each row with weight in a column inside is reached
abbrev pub AreAllReached : List Entry → List Mark → List Bool → Type 0
AreAllReached es ms inside =
    (k : ℕ) → k < length es → 0 < (entry_at es k).weight → is_inside inside (entry_at es k).column ≡ true → IsReached ms (entry_at es k).row

-- each column outside has a nearest row
abbrev pub AreNearest : (ℕ → ℕ → ℕ) → List ℕ → List Mark → List Bool → List ℕ → Type 0
AreNearest t rows ms inside via =
    (j : ℕ) → j < length via → is_inside inside j ≡ false → IsNearest t rows ms j (slice_index via j)

-- all orders are below the bound
abbrev pub AreOrdersBelow : List Mark → ℕ → Type 0
AreOrdersBelow ms bound = (i : ℕ) → (mark_at ms i).order < bound

-- via' is via with row i in the place of what it is nearer than
pub record IsImproved (t : ℕ → ℕ → ℕ) (rows : List ℕ) (i j v v' : ℕ) : Type 0 where
  pub one : (v' ≡ i → ⊥) → v' ≡ v
  pub new : t v' j + slice_index rows i ≤ t i j + slice_index rows v'
  pub old : t v' j + slice_index rows v ≤ t v j + slice_index rows v'

-- the rows reached from the root, the columns inside, and the nearest row of each column outside
pub record IsSearch (t : ℕ → ℕ → ℕ) (rows columns : List ℕ) (es : List Entry) (demand : List ℕ) (root supply : ℕ) (ms : List Mark) (inside : List Bool) (via : List ℕ) : Type 0 where
  pub marks_length : length ms ≡ length rows
  pub inside_length : length inside ≡ length columns
  pub via_length : length via ≡ length columns
  pub settled : (j : ℕ) → j < length columns → is_inside inside j ≡ true → slice_index demand j ≡ 0
  pub nearest : AreNearest t rows ms inside via
  pub marks : AreMarks t rows columns es root supply ms inside

-- a search with no row reached, and inside it the columns that never wanted weight
pub record IsFresh (rows : ℕ) (right : List ℕ) (root : ℕ) (ms : List Mark) (inside : List Bool) (via : List ℕ) : Type 0 where
  pub marks : ms ≡ replicate rows no_mark
  pub entered : inside ≡ map (λ w. w == 0) right
  pub vias : via ≡ replicate (length right) root

-- no entry with weight is in a column inside
abbrev pub AreOutside : List Entry → List Bool → Type 0
AreOutside es inside = (k : ℕ) → k < length es → 0 < (entry_at es k).weight → is_inside inside (entry_at es k).column ≡ false

-- how many columns are outside
abbrev pub outside_count : List Bool → ℕ
outside_count bs = count_by not bs

-- each entry with weight is in a column that wanted weight at first
abbrev pub AreLive : List Entry → List ℕ → Type 0
AreLive es right = (k : ℕ) → k < length es → 0 < (entry_at es k).weight → 0 < slice_index right (entry_at es k).column

-- a way from the root to a column that wants weight: by the marks to a row, and from it to the column
pub record IsWay (t : ℕ → ℕ → ℕ) (rows columns : List ℕ) (es : List Entry) (demand : List ℕ) (root supply row column : ℕ) (ms : List Mark) (inside : List Bool) : Type 0 where
  pub potentials : ArePotentials t rows columns es demand
  pub marks_length : length ms ≡ length rows
  pub marks : AreMarks t rows columns es root supply ms inside
  pub row_in : row < length rows
  pub reached : IsReached ms row
  pub column_in : column < length columns
  pub wants : 0 < slice_index demand column
  pub tight : IsTight t rows columns row column

-- n where a is b, and 0 elsewhere
abbrev pub only_at : ℕ → ℕ → ℕ → ℕ
only_at a b n = if a == b then n else 0

-- the entry e' stands in the place of e
pub record IsSamePlace (e e' : Entry) : Type 0 where
  pub row : e'.row ≡ e.row
  pub column : e'.column ≡ e.column

-- the entry stands in row i and column j
pub record IsPlaceOf (i j : ℕ) (e : Entry) : Type 0 where
  pub row : e.row ≡ i
  pub column : e.column ≡ j

-- the entry e' has no more weight than e, in the same place
pub record IsCut (e e' : Entry) : Type 0 where
  pub same : IsSamePlace e e'
  pub weight : e'.weight ≤ e.weight

-- weight n was added in row i and column j
pub record IsAdded (i j n : ℕ) (es es' : List Entry) : Type 0 where
  pub rows : (a : ℕ) → row_weight es' a ≡ row_weight es a + only_at i a n
  pub columns : (b : ℕ) → column_weight es' b ≡ column_weight es b + only_at j b n
  pub longer : length es ≤ length es'
  pub same : (k : ℕ) → k < length es → IsSamePlace (entry_at es k) (entry_at es' k)
  pub weights : (k : ℕ) → k < length es → (entry_at es k).weight ≤ (entry_at es' k).weight
  pub each : (k : ℕ) → k < length es' → ((k < length es) × IsCut (entry_at es k) (entry_at es' k)) ⊎ IsPlaceOf i j (entry_at es' k)

-- weight n went from the entry at place to row i of its column
pub record IsMoved (place i n : ℕ) (es es' : List Entry) : Type 0 where
  pub rows : (a : ℕ) → row_weight es' a + only_at (entry_at es place).row a n ≡ row_weight es a + only_at i a n
  pub columns : (b : ℕ) → column_weight es' b ≡ column_weight es b
  pub longer : length es ≤ length es'
  pub same : (k : ℕ) → k < length es → IsSamePlace (entry_at es k) (entry_at es' k)
  pub weights : (k : ℕ) → k < length es → (k ≡ place → ⊥) → (entry_at es k).weight ≤ (entry_at es' k).weight
  pub each : (k : ℕ) → k < length es' → ((k < length es) × IsCut (entry_at es k) (entry_at es' k)) ⊎ IsPlaceOf i (entry_at es place).column (entry_at es' k)

-- the mark x of row i leads through an entry of the row to a parent that was reached before
pub record IsStep (es : List Entry) (ms : List Mark) (i : ℕ) (x : Mark) : Type 0 where
  pub parent : x.parent < length ms
  pub reached : IsReached ms x.parent
  pub before : (mark_at ms x.parent).order < x.order
  pub entry : x.entry < length es
  pub row : (entry_at es x.entry).row ≡ i
  pub weight : x.room ≤ (entry_at es x.entry).weight
  pub room : x.room ≤ (mark_at ms x.parent).room

-- from each row reached steps lead to the root
abbrev pub AreSteps : List Entry → List Mark → ℕ → Type 0
AreSteps es ms root = (i : ℕ) → i < length ms → IsReached ms i → (i ≡ root → ⊥) → IsStep es ms i (mark_at ms i)

-- each entry is in the table, and tight where it has weight
abbrev pub ArePlaced : (ℕ → ℕ → ℕ) → List ℕ → List ℕ → List Entry → Type 0
ArePlaced t rows columns es = (k : ℕ) → k < length es → IsPlaced t rows columns (entry_at es k)

-- each step is tight
abbrev pub AreTightSteps : (ℕ → ℕ → ℕ) → List ℕ → List ℕ → List Entry → List Mark → ℕ → Type 0
AreTightSteps t rows columns es ms root =
    (i : ℕ) → i < length ms → IsReached ms i → (i ≡ root → ⊥) → IsTight t rows columns (mark_at ms i).parent (entry_at es (mark_at ms i).entry).column

-- what is placed so far, what is left of each row, and what each column still wants
pub record IsPlan (t : ℕ → ℕ → ℕ) (right supply demand : List ℕ) (es : List Entry) (rows columns : List ℕ) : Type 0 where
  pub potentials : ArePotentials t rows columns es demand
  pub rows_length : length rows ≡ length supply
  pub columns_length : length columns ≡ length demand
  pub right_length : length right ≡ length demand
  pub column_sums : (j : ℕ) → j < length right → column_weight es j + slice_index demand j ≡ slice_index right j
  pub totals : sum supply ≡ sum demand
  pub bounds : (i : ℕ) → row_weight es i + slice_index supply i < 2 ^ 126

-- each row has the same weight in all, placed or left
abbrev pub KeepsRows : List Entry → List ℕ → List Entry → List ℕ → Type 0
KeepsRows es supply es' supply' = (i : ℕ) → row_weight es' i + slice_index supply' i ≡ row_weight es i + slice_index supply i

-- the place of d comes after that of e, or is the same: by row, and in a row by column
abbrev pub NotAfter : Entry → Entry → Type 0
NotAfter d e = (d.row < e.row) ⊎ ((d.row ≡ e.row) × (d.column ≤ e.column))

-- the place of d comes before that of e
abbrev pub IsBefore : Entry → Entry → Type 0
IsBefore d e = (d.row < e.row) ⊎ ((d.row ≡ e.row) × (d.column < e.column))

-- the entries stand in the order of their places
abbrev pub AreOrdered : List Entry → Type 0
AreOrdered es = (k : ℕ) → k + 1 < length es → NotAfter (entry_at es k) (entry_at es (k + 1))

-- all weight is placed on tight entries, and no two potentials pass a cost
pub record IsSolved (t : ℕ → ℕ → ℕ) (left right : List ℕ) (es : List Entry) (rows columns : List ℕ) : Type 0 where
  pub rows_length : length rows ≡ length left
  pub columns_length : length columns ≡ length right
  pub feasible : IsFeasible t rows columns
  pub placed : ArePlaced t rows columns es
  pub row_sums : (i : ℕ) → i < length left → row_weight es i ≡ slice_index left i
  pub column_sums : (j : ℕ) → j < length right → column_weight es j ≡ slice_index right j
  pub row_bounds : (i : ℕ) → i < length rows → slice_index rows i ≤ 30000000000000
  pub column_bounds : (j : ℕ) → j < length columns → slice_index columns j ≤ 30000000000000

-- the place of each entry comes before that of the next, and each has weight
pub record IsTidy (es : List Entry) : Type 0 where
  pub ascending : (k : ℕ) → k + 1 < length es → IsBefore (entry_at es k) (entry_at es (k + 1))
  pub weights : (k : ℕ) → k < length es → 0 < (entry_at es k).weight

-- the entry e joined the tidy list es, at its end
pub record IsJoined (es : List Entry) (e : Entry) (es' : List Entry) : Type 0 where
  pub rows : (a : ℕ) → row_weight es' a ≡ row_weight es a + only_at e.row a e.weight
  pub columns : (b : ℕ) → column_weight es' b ≡ column_weight es b + only_at e.column b e.weight
  pub tidy : IsTidy es'
  pub some : 0 < length es'
  pub last : IsPlaceOf e.row e.column (entry_at es' (length es' - 1))
  pub each : (k : ℕ) → k < length es' → ((k < length es) × IsSamePlace (entry_at es k) (entry_at es' k)) ⊎ IsPlaceOf e.row e.column (entry_at es' k)

-- es' has the weights of es, in a tidy list
pub record IsMerged (es es' : List Entry) : Type 0 where
  pub rows : (a : ℕ) → row_weight es' a ≡ row_weight es a
  pub columns : (b : ℕ) → column_weight es' b ≡ column_weight es b
  pub tidy : IsTidy es'
  pub placed : (t : ℕ → ℕ → ℕ) (rows columns : List ℕ) → ArePlaced t rows columns es → ArePlaced t rows columns es'
