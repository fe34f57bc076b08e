-- A file read in pieces: the bytes so far are a front of the whole.
use Rattle.std.proofs.Common.{◌≡◌, ℕ, ◌+◌, ◌≤◌, List, ◌++◌, length, take, drop, IfSome, None, Some, refl, sym, ◌∙◌, ap, subst, arith, take-append-drop}
use Rattle.std.specs.declared.option.Option.{Option}
use Rattle.std.proofs.lemmas.List.{take-take, drop-take, take_all, length-take, append-nil}
use Rattle.platform_cli.specs.Reading.{ReadStep}

-- the bytes are the front of the whole that is as long as they are
abbrev pub IsFront : List ℕ → List ℕ → Type 0
IsFront bytes whole = bytes ≡ take (length bytes) whole

pub take_add : (n m : ℕ) (xs : List ℕ) → take n xs ++ take m (drop n xs) ≡ take (n + m) xs
take_add n m xs =
    let le : n ≤ n + m = omega arith in
    ap (λ (l : List ℕ). take n xs ++ l) (sym (drop-take n m xs))
    ∙ ap (λ (l : List ℕ). l ++ drop n (take (n + m) xs)) (sym (take-take n (n + m) xs le))
    ∙ take-append-drop n (take (n + m) xs)

next : (whole old new : List ℕ) (count : ℕ) → IsFront old whole → ReadStep whole old new count → IsFront new whole
next whole old new count front step =
    let joined : new ≡ take (length old + count) whole =
    step.added
    ∙ ap (λ (l : List ℕ). l ++ take count (drop (length old) whole)) front
    ∙ take_add (length old) count whole in
    let small : length old ≤ length whole = omega (arith, ap length front, length-take (length old) whole) in
    let long : length new ≡ length old + count = omega (arith, ap length joined, length-take (length old + count) whole, step.within) in
    joined ∙ ap (λ (n : ℕ). take n whole) (sym long)

last : (whole old new : List ℕ) (most : ℕ) → length old ≤ most → IsFront old whole → ReadStep whole old new 0 → new ≡ take most whole
last whole old new most room front step =
    let short : length whole ≤ length old = step.at_end.0 refl in
    step.added ∙ append-nil old ∙ front ∙ take_all (length old) whole short ∙ sym (take_all most whole (omega arith))

pub next_front : (held : Option (List ℕ)) (old new : List ℕ) (count : ℕ) → IfSome held (IsFront old) → IfSome held (λ whole. ReadStep whole old new count) → IfSome held (IsFront new)
next_front None old new count front step = tt
next_front (Some whole) old new count front step = next whole old new count front step

pub last_front : (held : Option (List ℕ)) (old new : List ℕ) (count most : ℕ) → count ≡ 0 → length old ≤ most → IfSome held (IsFront old) → IfSome held (λ whole. ReadStep whole old new count) → IfSome held (λ whole. new ≡ take most whole)
last_front None old new count most none room front step = tt
last_front (Some whole) old new count most none room front step =
    last whole old new most room front (subst (λ (n : ℕ). ReadStep whole old new n) none step)

pub full_front : (held : Option (List ℕ)) (bytes : List ℕ) (most : ℕ) → length bytes ≡ most → IfSome held (IsFront bytes) → IfSome held (λ whole. bytes ≡ take most whole)
full_front None bytes most full front = tt
full_front (Some whole) bytes most full front = front ∙ ap (λ (n : ℕ). take n whole) full
