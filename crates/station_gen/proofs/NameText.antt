-- A name's bytes are ASCII and stand for themselves in JSON.
use Rattle.std.proofs.Common.{◌≡◌, ℕ, zero, suc, ◌≤◌, List, [], ◌∷◌, ◌++◌, length, map, true, ◌&&◌, nat_le, None, slice_get, slice_index_or, refl, ap, ◌∙◌, arith}
use borrow.Author.Tests.{leb-true}
use Rattle.std.specs.List.{list_all}
use Rattle.std.specs.Str.{IsUtf8, IsAscii}
use Rattle.std.proofs.lemmas.Str.{IsUtf8-from_ascii}
use Rattle.std.proofs.lemmas.Bool.Decides.{nat_tests}
use Rattle.json.specs.Print.{escape_byte, escape, quoted}
use Rattle.station.specs.Named.{is_name, is_name_byte}
use Rattle.station.proofs.Tests.{left, right}

-- which bytes a name may have: none below 45, and no backslash
pub record IsPlainByte (b : ℕ) : Type 0 where
  pub least : 45 ≤ b
  pub most : b ≤ 122
  pub apart : b ≡ 92 → ⊥

plain-byte : (b : ℕ) → is_name_byte b ≡ true → IsPlainByte b
unfolding is_name_byte
plain-byte b h = record { least = grind (arith, nat_tests); most = grind (arith, nat_tests); apart = λ e. grind (arith, nat_tests) }

bytes-of : (bs : List ℕ) → is_name bs ≡ true → list_all is_name_byte bs ≡ true
unfolding is_name
bytes-of bs h = right (nat_le 1 (length bs) && nat_le (length bs) 24) (list_all is_name_byte bs) h

pub name-most : (bs : List ℕ) → is_name bs ≡ true → length bs ≤ 24
unfolding is_name
name-most bs h =
    leb-true (length bs) 24 (right (nat_le 1 (length bs)) (nat_le (length bs) 24) (left (nat_le 1 (length bs) && nat_le (length bs) 24) (list_all is_name_byte bs) h))

ascii-bytes : (bs : List ℕ) → list_all is_name_byte bs ≡ true → IsAscii bs
ascii-bytes [] h i = omega arith
ascii-bytes (b ∷ bs) h zero = omega (arith, (plain-byte b (left (is_name_byte b) (list_all is_name_byte bs) h)).most)
ascii-bytes (b ∷ bs) h (suc i) = ascii-bytes bs (right (is_name_byte b) (list_all is_name_byte bs) h) i

pub utf8-name : (bs : List ℕ) → is_name bs ≡ true → IsUtf8 bs
utf8-name bs h = IsUtf8-from_ascii bs (ascii-bytes bs (bytes-of bs h))

escape-plain : (b : ℕ) → IsPlainByte b → escape_byte b ≡ b ∷ []
unfolding escape_byte
escape-plain b h = let least = h.least in let apart = h.apart in grind (arith, nat_tests)

escape-bytes : (bs : List ℕ) → list_all is_name_byte bs ≡ true → escape bs ≡ bs
escape-bytes [] h = refl
escape-bytes (b ∷ bs) h =
    ap (λ x. x ++ escape bs) (escape-plain b (plain-byte b (left (is_name_byte b) (list_all is_name_byte bs) h)))
    ∙ ap (λ xs. b ∷ xs) (escape-bytes bs (right (is_name_byte b) (list_all is_name_byte bs) h))

-- a name between quotes
pub quoted-name : (bs : List ℕ) → is_name bs ≡ true → quoted bs ≡ 34 ∷ (bs ++ 34 ∷ [])
quoted-name bs h = ap (λ xs. 34 ∷ (xs ++ 34 ∷ [])) (escape-bytes bs (bytes-of bs h))

-- ---- what stands at a place past the end

pub nothing_named : {X : Type 0} (f : X → List ℕ) (xs : List X) (i : ℕ) → None ≡ slice_get xs i → [] ≡ slice_index_or (map f xs) i []
nothing_named f [] i e = refl
nothing_named f (x ∷ xs) zero e = absurd (cc)
nothing_named f (x ∷ xs) (suc i) e = nothing_named f xs i e

pub nothing_there : (xs : List (List ℕ)) (i : ℕ) → None ≡ slice_get xs i → [] ≡ slice_index_or xs i []
nothing_there [] i e = refl
nothing_there (x ∷ xs) zero e = absurd (cc)
nothing_there (x ∷ xs) (suc i) e = nothing_there xs i e
