-- The kinds of a proof file's records: their words, their numbers and the ranges of these.
use Rattle.std.specs.Prelude.{ℕ, ◌^◌, ◌==◌, Bool, true, List, [], ◌∷◌, ◌++◌, slice_index_or, codes, if◌then◌else◌, ℤ, pos, neg_ℤ, unsigned_abs}
use Rattle.leaf_bounds.specs.declared.number.NumberValue.{NumberValue}
use Rattle.leaf_bounds.specs.declared.number.PairValue.{PairValue}
use Rattle.record_table.specs.declared.kind.Range.{Range}
use Rattle.record_table.specs.Line.{line, are_in_range}
use Rattle.proof_file.specs.declared.record.ProofRecord.{ProofRecord}
use Rattle.proof_file.specs.declared.record.ProofRecord.TheVariants.{Head, Table, Ta, Tb, Split, Leaf, U, V, A, B, Use, Close, End, Nothing}

-- a kind of record: its word, the range of each of its numbers, and the record of numbers in these ranges
pub record RecordKind : Type 0 where
  pub word : List ℕ
  pub ranges : List Range
  pub make : List ℤ → ProofRecord

abbrev pub range : ℤ → ℤ → Range
range least most = record { least = least; most = most }

abbrev pub versions : Range
versions = range (pos 1) (pos 2)

-- the number of trains of a station
abbrev pub train_counts : Range
train_counts = range (pos 0) (pos 200)

abbrev pub trains : Range
trains = range (pos 0) (pos 199)

-- the numbers of patterns
abbrev pub pattern_numbers : Range
pattern_numbers = range (pos 0) (pos 4095)

abbrev pub platforms : Range
platforms = range (pos 0) (pos 63)

abbrev pub minutes : Range
minutes = range (neg_ℤ (pos 30)) (pos 2968)

abbrev pub table_numbers : Range
table_numbers = range (pos 0) (pos 65535)

-- scales, and factors of uses
abbrev pub scales : Range
scales = range (pos 1) (pos (10 ^ 18))

-- values of trains and of pairs
abbrev pub signed_values : Range
signed_values = range (neg_ℤ (pos (10 ^ 30))) (pos (10 ^ 30))

-- values of minutes
abbrev pub positive_values : Range
positive_values = range (pos 1) (pos (10 ^ 30))

abbrev pub bounds : Range
bounds = range (neg_ℤ (pos (10 ^ 36))) (pos (10 ^ 13))

-- a number of a record, and the same of one that isn't below 0
abbrev pub integer_in : List ℤ → ℕ → ℤ
integer_in values k = slice_index_or values k (pos 0)

abbrev pub natural_in : List ℤ → ℕ → ℕ
natural_in values k = unsigned_abs (integer_in values k)

abbrev pub number_value_of : List ℤ → NumberValue
number_value_of values = record { number = natural_in values 0; value = integer_in values 1 }

abbrev pub pair_value_of : List ℤ → PairValue
pair_value_of values =
    record { first = natural_in values 0; second = natural_in values 1; number = natural_in values 2; value = integer_in values 3 }

abbrev pub head_kind : RecordKind
head_kind = record {
  word = codes "tpp-proof";
  ranges = versions ∷ train_counts ∷ [];
  make = λ values. Head (record { version = natural_in values 0; trains = natural_in values 1 });
}

abbrev pub table_kind : RecordKind
table_kind = record {
  word = codes "table";
  ranges = table_numbers ∷ trains ∷ trains ∷ [];
  make = λ values. Table (record { table = natural_in values 0; first = natural_in values 1; second = natural_in values 2 });
}

abbrev pub ta_kind : RecordKind
ta_kind = record { word = codes "ta"; ranges = pattern_numbers ∷ signed_values ∷ []; make = λ values. Ta (number_value_of values) }

abbrev pub tb_kind : RecordKind
tb_kind = record { word = codes "tb"; ranges = pattern_numbers ∷ signed_values ∷ []; make = λ values. Tb (number_value_of values) }

abbrev pub split_kind : RecordKind
split_kind = record {
  word = codes "split";
  ranges = trains ∷ pattern_numbers ∷ [];
  make = λ values. Split (record { train = natural_in values 0; at = natural_in values 1 });
}

abbrev pub leaf_kind : RecordKind
leaf_kind = record { word = codes "leaf"; ranges = scales ∷ []; make = λ values. Leaf (integer_in values 0) }

abbrev pub u_kind : RecordKind
u_kind = record {
  word = codes "u";
  ranges = trains ∷ signed_values ∷ [];
  make = λ values. U (record { train = natural_in values 0; value = integer_in values 1 });
}

abbrev pub v_kind : RecordKind
v_kind = record {
  word = codes "v";
  ranges = platforms ∷ minutes ∷ positive_values ∷ [];
  make = λ values. V (record { platform = natural_in values 0; minute = integer_in values 1; value = integer_in values 2 });
}

abbrev pub a_kind : RecordKind
a_kind = record {
  word = codes "a";
  ranges = trains ∷ trains ∷ pattern_numbers ∷ signed_values ∷ [];
  make = λ values. A (pair_value_of values);
}

abbrev pub b_kind : RecordKind
b_kind = record {
  word = codes "b";
  ranges = trains ∷ trains ∷ pattern_numbers ∷ signed_values ∷ [];
  make = λ values. B (pair_value_of values);
}

abbrev pub use_kind : RecordKind
use_kind = record {
  word = codes "use";
  ranges = table_numbers ∷ scales ∷ [];
  make = λ values. Use (record { table = natural_in values 0; factor = integer_in values 1 });
}

abbrev pub close_kind : RecordKind
close_kind = record { word = codes "close"; ranges = []; make = λ values. Close }

abbrev pub end_kind : RecordKind
end_kind = record { word = codes "end"; ranges = bounds ∷ []; make = λ values. End (integer_in values 0) }

abbrev pub none_kind : RecordKind
none_kind = record { word = codes "none"; ranges = []; make = λ values. Nothing }

-- the kinds that say how a proof goes
abbrev pub tree_kinds : List RecordKind
tree_kinds = head_kind ∷ split_kind ∷ leaf_kind ∷ close_kind ∷ end_kind ∷ none_kind ∷ []

-- the kinds of a leaf's own numbers
abbrev pub number_kinds : List RecordKind
number_kinds = u_kind ∷ v_kind ∷ a_kind ∷ b_kind ∷ []

-- the kinds of tables and their uses
abbrev pub table_kinds : List RecordKind
table_kinds = table_kind ∷ ta_kind ∷ tb_kind ∷ use_kind ∷ []

-- Version 2 has the kinds of version 1, and those of tables.
abbrev pub kinds_of : ℕ → List RecordKind
kinds_of version = tree_kinds ++ number_kinds ++ (if version == 2 then table_kinds else [])

abbrev pub kind_of : ProofRecord → RecordKind
kind_of (Head x) = head_kind
kind_of (Table x) = table_kind
kind_of (Ta x) = ta_kind
kind_of (Tb x) = tb_kind
kind_of (Split x) = split_kind
kind_of (Leaf q) = leaf_kind
kind_of (U x) = u_kind
kind_of (V x) = v_kind
kind_of (A x) = a_kind
kind_of (B x) = b_kind
kind_of (Use x) = use_kind
kind_of Close = close_kind
kind_of (End bound) = end_kind
kind_of Nothing = none_kind

-- The record is of one of the version's kinds.
abbrev pub is_of_version : ℕ → ProofRecord → Bool
is_of_version version (Head x) = true
is_of_version version (Table x) = version == 2
is_of_version version (Ta x) = version == 2
is_of_version version (Tb x) = version == 2
is_of_version version (Split x) = true
is_of_version version (Leaf q) = true
is_of_version version (U x) = true
is_of_version version (V x) = true
is_of_version version (A x) = true
is_of_version version (B x) = true
is_of_version version (Use x) = version == 2
is_of_version version Close = true
is_of_version version (End bound) = true
is_of_version version Nothing = true

abbrev pub number_values : NumberValue → List ℤ
number_values x = pos x.number ∷ x.value ∷ []

abbrev pub pair_values : PairValue → List ℤ
pair_values x = pos x.first ∷ pos x.second ∷ pos x.number ∷ x.value ∷ []

-- the numbers of a record, in the order of its line
abbrev pub values_of : ProofRecord → List ℤ
values_of (Head x) = pos x.version ∷ pos x.trains ∷ []
values_of (Table x) = pos x.table ∷ pos x.first ∷ pos x.second ∷ []
values_of (Ta x) = number_values x
values_of (Tb x) = number_values x
values_of (Split x) = pos x.train ∷ pos x.at ∷ []
values_of (Leaf q) = q ∷ []
values_of (U x) = pos x.train ∷ x.value ∷ []
values_of (V x) = pos x.platform ∷ x.minute ∷ x.value ∷ []
values_of (A x) = pair_values x
values_of (B x) = pair_values x
values_of (Use x) = pos x.table ∷ x.factor ∷ []
values_of Close = []
values_of (End bound) = bound ∷ []
values_of Nothing = []

-- the record's line, with its newline
unfoldable pub line_of : ProofRecord → List ℕ
line_of r = line (kind_of r).word (values_of r)

-- each number of the record is in its field's range
unfoldable pub is_in_range : ProofRecord → Bool
is_in_range r = are_in_range (kind_of r).ranges (values_of r)
