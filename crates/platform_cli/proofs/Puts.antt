-- Known bytes that grow put by put.
use Rattle.std.proofs.Common.{◌≡◌, ℕ, ◌+◌, ◌-◌, ◌≤◌, List, [], ◌++◌, length, take, drop, None, Some, Result, Ok, Err, OnErr, refl, sym, ◌∙◌, ap, arith, append_assoc, length-take}
use Rattle.std.specs.declared.option.Option.{Option}
use Rattle.std.specs.Io.KnownBytes.{Appends, Keeps}
use Rattle.std.proofs.lemmas.List.{append-nil, take-take}
use Rattle.shelf.specs.declared.fault.ShelfFault.{ShelfFault}
use Rattle.shelf.specs.declared.fault.ShelfFault.TheVariants.{Failed, Memory}
use Rattle.shelf.specs.Outside.{AppendsPrefix}
use Rattle.platform_cli.proofs.Pieces.{take_add}

pub appends_nil : (known : Option (List ℕ)) → Appends known known []
appends_nil None = tt
appends_nil (Some bytes) = sym (append-nil bytes)

pub appends_more : (a b c : Option (List ℕ)) (xs ys zs : List ℕ) → xs ++ ys ≡ zs → Appends a b xs → Appends b c ys → Appends a c zs
appends_more None b c xs ys zs joined front back = tt
appends_more (Some a) None c xs ys zs joined front back = absurd front
appends_more (Some a) (Some b) None xs ys zs joined front back = absurd back
appends_more (Some a) (Some b) (Some c) xs ys zs joined front back =
    back ∙ ap (λ (l : List ℕ). l ++ ys) front ∙ append_assoc a xs ys ∙ ap (λ (l : List ℕ). a ++ l) joined

-- a piece of a text, and a front of it, behind what was put before
pub piece_end : (text : List ℕ) (done end : ℕ) → done ≤ end → take done text ++ take (end - done) (drop done text) ≡ take end text
piece_end text done end le = take_add done (end - done) text ∙ ap (λ (n : ℕ). take n text) (omega arith)

pub piece_front : (text : List ℕ) (done end count : ℕ) → count ≤ end - done → take done text ++ take count (take (end - done) (drop done text)) ≡ take (done + count) text
piece_front text done end count le =
    ap (λ (l : List ℕ). take done text ++ l) (take-take count (end - done) (drop done text) le) ∙ take_add done count text

pub keeps_front : (a b c : Option (List ℕ)) (text : List ℕ) (done : ℕ) → done ≤ length text → Appends a b (take done text) → Keeps b c → AppendsPrefix a c text
keeps_front None b c text done le front kept = (done, le, tt)
keeps_front (Some a) None c text done le front kept = absurd front
keeps_front (Some a) (Some b) None text done le front kept = absurd kept
keeps_front (Some a) (Some b) (Some c) text done le front kept = (done, le, kept ∙ front)

pub piece_prefix : (a b c : Option (List ℕ)) (text : List ℕ) (done end : ℕ) → done ≤ end → end ≤ length text → Appends a b (take done text) → AppendsPrefix b c (take (end - done) (drop done text)) → AppendsPrefix a c text
piece_prefix a b c text done end le within front piece =
    let small : piece.0 ≤ end - done = omega (arith, piece.1, length-take (end - done) (drop done text)) in
    (done + piece.0, omega arith, appends_more a b c _ _ _ (piece_front text done end piece.0 small) front piece.2)

-- a put of the next piece that stopped
pub put_stopped : (a b c : Option (List ℕ)) (text : List ℕ) (done end : ℕ) (fault : ShelfFault) → done ≤ end → end ≤ length text → Appends a b (take done text)
    → (fault ≡ Failed → AppendsPrefix b c (take (end - done) (drop done text))) → (fault ≡ Memory → Keeps b c) → AppendsPrefix a c text
put_stopped a b c text done end Failed le within front failed unchanged = piece_prefix a b c text done end le within front (failed refl)
put_stopped a b c text done end Memory le within front failed unchanged = keeps_front a b c text done (omega arith) front (unchanged refl)

pub on_err : {T E P : Type 0} (r : Result T E) → P → OnErr r P
on_err (Ok x) fact = tt
on_err (Err e) fact = fact
