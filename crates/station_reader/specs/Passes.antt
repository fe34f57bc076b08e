-- What is known of the tree of a text once the classes have passed, for the functions that make its station.
use Rattle.std.specs.Prelude.{◌≡◌, ℕ, ◌≤◌, List, length, take, false, Some, None, slice_get, IsTrue}
use Rattle.serde_json.specs.Data.{Data}
use Rattle.station_reader.specs.declared.form.Edition.{Edition}
use Rattle.station_reader.specs.declared.member.Member.TheVariants.{Threshold, ConflictPrice, BufferPrice, Directions, Platforms, Paths, Incompatible, Trains, Name, Price, Headway, Buffer, Direction, Platform, Minutes, From, To, Arrive, Depart, Dwell, ArriveEarly, ArriveLate, DepartEarly, DepartLate, OffPrice, ShiftPrice, Surcharges}
use Rattle.station.specs.Named.{is_name}
use Rattle.station_reader.specs.Tree.{entries, entries_at, text, text_at, text_if, integer_at}
use Rattle.station_reader.specs.First.{occurs}
use Rattle.station_reader.specs.Shape.{shape}
use Rattle.station_reader.specs.Classes.{count, name, double, unknown, range, within, is_regular, direction_names, platform_names, path_names, charged_price}

-- no name is among those before it
abbrev pub AllNew : List (List ℕ) → Type 0
AllNew ns = (i : ℕ) (n : List ℕ) → slice_get ns i ≡ Some n → occurs n (take i ns) ≡ false

-- none of the classes that come before the use of names has a failing place
pub record IsNamed (e : Edition) (tree : Data) : Type 0 where
  pub shape : shape e tree ≡ None
  pub count : count tree ≡ None
  pub name : name tree ≡ None
  pub double : double tree ≡ None

-- no class but the last has a failing place
pub record IsClear (e : Edition) (tree : Data) : Type 0 where
  pub shape : shape e tree ≡ None
  pub count : count tree ≡ None
  pub name : name tree ≡ None
  pub double : double tree ≡ None
  pub unknown : unknown tree ≡ None
  pub range : range tree ≡ None

-- P of each element
abbrev pub Each : {X : Type 0} → (X → Type 0) → List X → Type 0
Each {X} P xs = (i : ℕ) (x : X) → slice_get xs i ≡ Some x → P x

pub record PlatformPasses (d : Data) : Type 0 where
  pub name : IsTrue (is_name (text_at Name d))
  pub price : IsTrue (within Price (integer_at Price d))
  pub headway : IsTrue (within Headway (integer_at Headway d))
  pub buffer : IsTrue (within Buffer (integer_at Buffer d))

pub record PathPasses (tree d : Data) : Type 0 where
  pub name : IsTrue (is_name (text_at Name d))
  pub direction : IsTrue (occurs (text_at Direction d) (direction_names tree))
  pub platform : IsTrue (is_regular (text_at Platform d) tree)
  pub minutes : IsTrue (within Minutes (integer_at Minutes d))
  pub price : IsTrue (within Price (integer_at Price d))

pub record PairPasses (tree d : Data) : Type 0 where
  pub known : Each (λ e. IsTrue (occurs (text e) (path_names tree))) (entries d)

-- a price that is asked on a platform
abbrev pub ChargePasses : Data → Type 0
ChargePasses d = IsTrue (within Surcharges (charged_price d))

pub record TrainPasses (tree d : Data) : Type 0 where
  pub name : IsTrue (is_name (text_at Name d))
  pub «from» : (s : List ℕ) → text_if From d ≡ Some s → IsTrue (occurs s (direction_names tree))
  pub to : (s : List ℕ) → text_if To d ≡ Some s → IsTrue (occurs s (direction_names tree))
  pub arrive : IsTrue (within Arrive (integer_at Arrive d))
  pub depart : IsTrue (within Depart (integer_at Depart d))
  pub dwell : IsTrue (within Dwell (integer_at Dwell d))
  pub arrive_early : IsTrue (within ArriveEarly (integer_at ArriveEarly d))
  pub arrive_late : IsTrue (within ArriveLate (integer_at ArriveLate d))
  pub depart_early : IsTrue (within DepartEarly (integer_at DepartEarly d))
  pub depart_late : IsTrue (within DepartLate (integer_at DepartLate d))
  pub off_price : IsTrue (within OffPrice (integer_at OffPrice d))
  pub shift_price : IsTrue (within ShiftPrice (integer_at ShiftPrice d))
  pub charges : Each ChargePasses (entries_at Surcharges d)

-- the declared lists have no more entries than their numbers can name
pub record AreFew (tree : Data) : Type 0 where
  pub directions : length (direction_names tree) ≤ 64
  pub platforms : length (platform_names tree) ≤ 64
  pub paths : length (path_names tree) ≤ 500
  pub trains : length (entries_at Trains tree) ≤ 200

pub record TreePasses (tree : Data) : Type 0 where
  pub few : AreFew tree
  pub threshold : IsTrue (within Threshold (integer_at Threshold tree))
  pub conflict_price : IsTrue (within ConflictPrice (integer_at ConflictPrice tree))
  pub buffer_price : IsTrue (within BufferPrice (integer_at BufferPrice tree))
  pub directions : Each (λ d. IsTrue (is_name (text d))) (entries_at Directions tree)
  pub platforms : Each PlatformPasses (entries_at Platforms tree)
  pub paths : Each (PathPasses tree) (entries_at Paths tree)
  pub pairs : Each (PairPasses tree) (entries_at Incompatible tree)
  pub trains : Each (TrainPasses tree) (entries_at Trains tree)
