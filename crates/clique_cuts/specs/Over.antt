-- Minutes at which the weights that hold a platform are more than its use.
use Rattle.std.specs.Prelude.{◌≡◌, ℕ, ◌<◌, ◌≤◌, length, slice_index_or, All, Option, None, Some, ℤ, pos, ◌≤ℤ◌, ◌<ℤ◌, unsigned_abs, ⊤}
use Rattle.patterns.specs.declared.weights.Weights.{Weights}
use Rattle.patterns.specs.Allowed.{Lists, list_of}
use Rattle.patterns.specs.Weights.{choice_weights}
use Rattle.pair_prices.specs.Case.{CaseRecord}
use Rattle.pair_prices.specs.Fraction.{Fraction, held_weight, pattern_of}
use Rattle.clique_cuts.specs.declared.cut.CliqueCut.{CliqueCut}

-- the weights and uses as those of a fractional plan; its tables play no part here
abbrev pub fraction_of : Weights → Fraction
fraction_of w = record {
  scale = unsigned_abs w.scale;
  weight = λ train place. unsigned_abs (slice_index_or (choice_weights w train) place (pos 0));
  «use» = λ platform. unsigned_abs (slice_index_or w.uses platform (pos 0));
  table = λ p i j. 0;
}

-- There is a use of at least 0 for each platform.
pub record HasUses (c : CaseRecord) (w : Weights) : Type 0 where
  pub platforms : length w.uses ≡ length c.station.platforms
  pub positive : All (λ x. pos 0 ≤ℤ x) w.uses

-- the weights held on the platform at that minute are more than its use
abbrev pub IsOver : CaseRecord → Lists → Fraction → ℕ → ℤ → Type 0
IsOver c lists f platform minute = f.use platform < held_weight c lists f platform minute

-- the weights held on the platform at that minute are at most its use
abbrev pub IsWithinUse : CaseRecord → Lists → Fraction → ℕ → ℤ → Type 0
IsWithinUse c lists f platform minute = held_weight c lists f platform minute ≤ f.use platform

-- the minute at which the train's pattern arrives
abbrev pub arrival : CaseRecord → Lists → ℕ → ℕ → ℤ
arrival c lists train place = (pattern_of c lists train place).arrive

-- the minute is before what is found; all minutes are where nothing is
abbrev pub ComesBefore : ℤ → Option ℤ → Type 0
ComesBefore minute None = ⊤
ComesBefore minute (Some found) = minute <ℤ found

-- A listed pattern with weight arrives on the platform at that minute.
pub record IsArrival (c : CaseRecord) (lists : Lists) (f : Fraction) (platform : ℕ) (minute : ℤ) : Type 0 where
  pub train : ℕ
  pub place : ℕ
  pub has_train : train < length c.book
  pub listed : place < length (list_of lists train)
  pub stops : (pattern_of c lists train place).platform ≡ platform
  pub arrives : arrival c lists train place ≡ minute
  pub weighs : 0 < f.weight train place

-- The platform is over when a listed pattern with weight arrives there.
pub record IsOverArrival (c : CaseRecord) (lists : Lists) (f : Fraction) (platform : ℕ) (minute : ℤ) : Type 0 where
  pub over : IsOver c lists f platform minute
  pub arrival : IsArrival c lists f platform minute

-- A minute of the platform that is over, at an arrival, or none: no minute before is over.
pub record IsFirstOver (c : CaseRecord) (lists : Lists) (f : Fraction) (platform : ℕ) (found : Option ℤ) : Type 0 where
  pub over : (minute : ℤ) → found ≡ Some minute → IsOverArrival c lists f platform minute
  pub before : (minute : ℤ) → ComesBefore minute found → IsWithinUse c lists f platform minute

-- The first platform with a minute that is over, and on it the first such minute, at which a listed pattern arrives.
pub record IsFirstCut (c : CaseRecord) (lists : Lists) (f : Fraction) (cut : CliqueCut) : Type 0 where
  pub platform : cut.platform < length c.station.platforms
  pub first : IsFirstOver c lists f cut.platform (Some cut.minute)
  pub below : (platform : ℕ) → platform < cut.platform → (minute : ℤ) → IsWithinUse c lists f platform minute

-- No minute of any platform is over.
abbrev pub NoneOver : CaseRecord → Lists → Fraction → Type 0
NoneOver c lists f = (platform : ℕ) → platform < length c.station.platforms → (minute : ℤ) → IsWithinUse c lists f platform minute
