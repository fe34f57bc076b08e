-- The surcharges of a train come back from its tree.
use Rattle.std.proofs.Common.{◌≡◌, ℕ, zero, suc, ◌+◌, ◌<◌, List, [], ◌∷◌, map, length, Bool, true, false, cond, Option, Some, None, option_map, slice_get, slice_index_or, refl, sym, ap, ◌∙◌, subst, arith, inl, inr, ◌⊎◌, bytes_eq, true≢false}
use Rattle.std.specs.List.{cons_option}
use Rattle.std.proofs.lemmas.Slice.Eq.{bytes_eq-Decides}
use Rattle.serde_json.specs.Data.{Data}
use Rattle.station.specs.declared.part.Surcharge.{Surcharge}
use Rattle.station_reader.specs.Tree.{natural}
use Rattle.station_reader.specs.Classes.{charged_name, charged_price}
use Rattle.station.specs.Station.{AllDiffer, charged}
use Rattle.station_reader.specs.Reading.{charge_of, surcharges_from}
use Rattle.station.proofs.Among.{Among, place-of}
use Rattle.station_reader.proofs.Chosen.{charges_rising}
use Rattle.station.proofs.Lists.{Rising, map-at}
use Rattle.station_gen.proofs.Listed.{name-at}
use Rattle.station_gen.proofs.SameRising.{every-of, rising-by, rising-unmap, same-rising}

abbrev charge : ℕ → ℕ → Surcharge
charge n q = record { platform = n; price = q }

-- ---- elements of what is read

abbrev with_charge : ℕ → Option ℕ → List Surcharge → List Surcharge
with_charge n o rest = cons_option (option_map (charge n) o) rest

more_charges : (n : ℕ) (o : Option ℕ) (rest : List Surcharge) (s : Surcharge) → Among rest s → Among (with_charge n o rest) s
more_charges n None rest s h = h
more_charges n (Some q) rest s h = inr h

this_charge : (n q : ℕ) (o : Option ℕ) (rest : List Surcharge) → o ≡ Some q → Among (with_charge n o rest) (charge n q)
this_charge n q None rest e = absurd (cc)
this_charge n q (Some p) rest e = let same : p ≡ q = cc in inl (ap (charge n) same)

into-charges : (n : ℕ) (names : List (List ℕ)) (ds : List Data) (i m q : ℕ) (name : List ℕ) → slice_get names i ≡ Some name → charge_of name ds ≡ Some q → m ≡ n + i → Among (surcharges_from n names ds) (charge m q)
into-charges n [] ds i m q name is e at = absurd (cc)
into-charges n (x ∷ names) ds zero m q name is e at =
    let here : x ≡ name = cc in
    let first : n ≡ m = omega arith in
    subst (λ k. Among (surcharges_from n (x ∷ names) ds) (charge k q)) first (this_charge n q (charge_of x ds) (surcharges_from (n + 1) names ds) (ap (λ y. charge_of y ds) here ∙ e))
into-charges n (x ∷ names) ds (suc i) m q name is e at =
    more_charges n (charge_of x ds) (surcharges_from (n + 1) names ds) (charge m q) (into-charges (n + 1) names ds i m q name is e (omega arith))

abbrev IsCharged : ℕ → List (List ℕ) → List Data → Surcharge → Type 0
IsCharged n names ds s = (i : ℕ) × (name : List ℕ) × (slice_get names i ≡ Some name) × (charge_of name ds ≡ Some s.price) × (s.platform ≡ n + i)

from_charge : (n : ℕ) (x : List ℕ) (names : List (List ℕ)) (ds : List Data) (o : Option ℕ) (s : Surcharge) → charge_of x ds ≡ o → Among (with_charge n o (surcharges_from (n + 1) names ds)) s
    → (Among (surcharges_from (n + 1) names ds) s → IsCharged (n + 1) names ds s) → IsCharged n (x ∷ names) ds s
from_charge n x names ds None s e h later = let rest = later h in (suc rest.0, rest.1, rest.2, rest.3, omega (arith, rest.4))
from_charge n x names ds (Some q) s e (inl same) later = (
  0,
  x,
  refl,
  e ∙ ap (λ (c : Surcharge). Some c.price) same,
  let at : n ≡ s.platform = ap (λ (c : Surcharge). c.platform) same in omega arith,
)
from_charge n x names ds (Some q) s e (inr h) later = let rest = later h in (suc rest.0, rest.1, rest.2, rest.3, omega (arith, rest.4))

from-charges : (n : ℕ) (names : List (List ℕ)) (ds : List Data) (s : Surcharge) → Among (surcharges_from n names ds) s → IsCharged n names ds s
from-charges n [] ds s h = absurd h
from-charges n (x ∷ names) ds s h = from_charge n x names ds (charge_of x ds) s refl h (from-charges (n + 1) names ds s)

-- ---- trees of surcharges

module _ (names : List (List ℕ)) (apart : AllDiffer names) (json : Surcharge → Data) (named : (s : Surcharge) → charged_name (json s) ≡ slice_index_or names s.platform []) (priced : (s : Surcharge) → natural (charged_price (json s)) ≡ s.price) where
  abbrev name_of : ℕ → List ℕ
  name_of p = slice_index_or names p []

  same-number : (p q : ℕ) → p < length names → q < length names → name_of p ≡ name_of q → p ≡ q
  same-number p q h g e = apart p q (name_of p) (name-at names p h) (name-at names q g ∙ ap Some (sym e))

  abbrev IsAsked : List Surcharge → List ℕ → ℕ → Type 0
  IsAsked ss name q = (s : Surcharge) × Among ss s × (name ≡ name_of s.platform) × (s.price ≡ q)

  asked_first : (b : Bool) (s : Surcharge) (ss : List Surcharge) (name : List ℕ) (q : ℕ) → bytes_eq name (charged_name (json s)) ≡ b
      → cond b (Some (natural (charged_price (json s)))) (charge_of name (map json ss)) ≡ Some q → (charge_of name (map json ss) ≡ Some q → IsAsked ss name q) → IsAsked (s ∷ ss) name q
  asked_first true s ss name q e is later =
      let same : name ≡ charged_name (json s) = (bytes_eq-Decides name (charged_name (json s))).0 e in
      let price : natural (charged_price (json s)) ≡ q = cc in
      (s, inl refl, same ∙ named s, sym (priced s) ∙ price)
  asked_first false s ss name q e is later = let rest = later is in (rest.0, inr rest.1, rest.2, rest.3)

  asked : (ss : List Surcharge) (name : List ℕ) (q : ℕ) → charge_of name (map json ss) ≡ Some q → IsAsked ss name q
  asked [] name q e = absurd (cc)
  asked (s ∷ ss) name q e = asked_first (bytes_eq name (charged_name (json s))) s ss name q refl e (asked ss name q)

  abbrev Below : Surcharge → Surcharge → Type 0
  Below x y = x.platform < y.platform

  answer_first : (b : Bool) (s c : Surcharge) (ss : List Surcharge) → bytes_eq (name_of c.platform) (charged_name (json s)) ≡ b → s.platform < length names → c.platform < length names
      → (s ≡ c) ⊎ Among ss c → (Among ss c → s.platform < c.platform) → (Among ss c → charge_of (name_of c.platform) (map json ss) ≡ Some c.price)
      → cond b (Some (natural (charged_price (json s)))) (charge_of (name_of c.platform) (map json ss)) ≡ Some c.price
  answer_first true s c ss e hs hc (inl same) rise later = ap Some (priced s ∙ ap (λ (x : Surcharge). x.price) same)
  answer_first true s c ss e hs hc (inr h) rise later =
      let texts : name_of c.platform ≡ charged_name (json s) = (bytes_eq-Decides (name_of c.platform) (charged_name (json s))).0 e in
      let one : c.platform ≡ s.platform = same-number c.platform s.platform hc hs (texts ∙ named s) in
      absurd (omega (arith, one, rise h))
  answer_first false s c ss e hs hc (inl same) rise later =
      let texts : name_of c.platform ≡ charged_name (json s) = ap (λ (x : Surcharge). name_of x.platform) (sym same) ∙ sym (named s) in
      absurd (true≢false (sym ((bytes_eq-Decides (name_of c.platform) (charged_name (json s))).1 texts) ∙ e))
  answer_first false s c ss e hs hc (inr h) rise later = later h

  answer : (ss : List Surcharge) → ((i : ℕ) (s : Surcharge) → slice_get ss i ≡ Some s → s.platform < length names) → Rising Below ss → (c : Surcharge) → Among ss c
      → charge_of (name_of c.platform) (map json ss) ≡ Some c.price
  answer [] there rising c h = absurd h
  answer (s ∷ ss) there rising c h =
      let at = place-of (s ∷ ss) c h in
      answer_first (bytes_eq (name_of c.platform) (charged_name (json s))) s c ss refl (there 0 s refl) (there at.0 c at.1) h
      (λ g. every-of (Below s) ss rising.0 c g) (λ g. answer ss (λ i x is. there (suc i) x is) rising.1 c g)

  pub charges-back : (ss : List Surcharge) → ((i p : ℕ) → slice_get (charged ss) i ≡ Some p → p < length names)
      → ((i j p q : ℕ) → i < j → slice_get (charged ss) i ≡ Some p → slice_get (charged ss) j ≡ Some q → p < q) → surcharges_from 0 names (map json ss) ≡ ss
  charges-back ss there ascending =
      let platform : Surcharge → ℕ = λ s. s.platform in
      let within : (i : ℕ) (s : Surcharge) → slice_get ss i ≡ Some s → s.platform < length names = λ i s is. there i s.platform (map-at platform ss i s is) in
      let rises : Rising Below ss = rising-by Below ss (λ i j x y h is js. ascending i j x.platform y.platform h (map-at platform ss i x is) (map-at platform ss j y js)) in
      same-rising platform (surcharges_from 0 names (map json ss)) ss
      (rising-unmap (λ p q. p < q) platform (surcharges_from 0 names (map json ss)) (charges_rising 0 (length names) names (map json ss) (omega arith)))
      rises
      (λ c h.
      let found = from-charges 0 names (map json ss) c h in
      let s = asked ss found.1 c.price found.3 in
      let at = place-of ss s.0 s.1 in
      let name : slice_get names s.0.platform ≡ Some found.1 = name-at names s.0.platform (within at.0 s.0 at.1) ∙ ap Some (sym s.2) in
      let number : s.0.platform ≡ found.0 = apart s.0.platform found.0 found.1 name found.2 in
      let platforms : s.0.platform ≡ c.platform = omega (arith, number, found.4) in
      subst (Among ss) (λ i. record { platform = platforms i; price = s.3 i }) s.1)
      (λ c h.
      let at = place-of ss c h in
      into-charges 0 names (map json ss) c.platform c.platform c.price (name_of c.platform) (name-at names c.platform (within at.0 c at.1)) (answer ss within rises c h) (omega arith))
