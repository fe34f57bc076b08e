-- The table of two trains' classes has their patterns' sealed prices.
use Rattle.std.proofs.Common.{◌≡◌, ℕ, zero, suc, ◌+◌, ◌*◌, ◌<◌, ◌≤◌, List, [], ◌∷◌, ◌++◌, length, map, get_or, refl, sym, ap, ◌∙◌, subst, arith, ℤ, pos, Bool, true, false, cond}
use Rattle.std.specs.Prelude.{slice_index}
use Rattle.std.specs.List.{All, flat_map}
use Rattle.std.proofs.lemmas.List.{get_or_append_left, get_or-append-add, get_or_default, length-append}
use Rattle.std.proofs.lemmas.List.FromFn.{get_or-range_with_len, length-range_with_len, map-range_with_len_more}
use Rattle.std.proofs.lemmas.List.Elements.{All-head, All-map, All-tail}
use Rattle.std.proofs.lemmas.Nat.{mul-le}
use Rattle.std.proofs.lemmas.Int.{ints}
use Rattle.station.specs.Allowed.{numbers}
use Rattle.patterns.specs.Book.{offers_of, pattern_at}
use Rattle.station.specs.declared.part.Pattern.{Pattern}
use Rattle.patterns.proofs.SoundLemmas.{flat_within}
use Rattle.pair_prices.specs.Case.{CaseRecord, IsCase}
use Rattle.pair_prices.specs.Pair.{are_forbidden, pair_price}
use Rattle.pair_prices.specs.Top.{sealed_price, top_of}
use Rattle.pair_prices.proofs.Above.{pair_below}
use Rattle.pair_prices.proofs.TopLemmas.{top_most, dearest_most}
use Rattle.pair_classes.specs.Groups.{AreGroups, line_at}
use Rattle.pair_classes.specs.Classes.{ClassTable, ArePriced, IsClassTable, IsPrice, class_price, column, columns_of, picked_line, picked_lines, sealed_at}
use Rattle.pair_classes.specs.Meetings.{AreFree}

pub length_map : {X Y : Type 0} (f : X → Y) (xs : List X) → length (map f xs) ≡ length xs
length_map f [] = refl
length_map f (x ∷ xs) = ap suc (length_map f xs)

pub get_map : {A : Type 0} (f : ℕ → A) (xs : List ℕ) (i : ℕ) (d : A) → i < length xs → get_or (map f xs) i d ≡ f (get_or xs i 0)
get_map f [] i d h = let bad : ⊥ = omega (arith, h) in absurd bad
get_map f (x ∷ xs) zero d h = refl
get_map f (x ∷ xs) (suc i) d h = get_map f xs i d (omega (arith, h))

zero_more : (n : ℕ) → 0 + n ≡ n
zero_more n = omega arith

pub length_numbers : (n : ℕ) → length (numbers n) ≡ n
length_numbers n = length-range_with_len 0 n

pub get_numbers : {A : Type 0} (f : ℕ → A) (n i : ℕ) (d : A) → i < n → get_or (map f (numbers n)) i d ≡ f i
get_numbers f n i d h =
    get_map f (numbers n) i d (omega (arith, h, length_numbers n))
    ∙ ap f (get_or-range_with_len 0 n i 0 h ∙ zero_more i)

-- one more number's value
pub map_numbers_more : {A : Type 0} (f : ℕ → A) (k : ℕ) (old new : List A) (x : A) → old ≡ map f (numbers k) → new ≡ old ++ x ∷ [] → x ≡ f k
    → new ≡ map f (numbers (k + 1))
map_numbers_more f k old new x e g h =
    g ∙ ap (λ xs. xs ++ x ∷ []) e ∙ ap (λ y. map f (numbers k) ++ y ∷ []) h ∙ sym (map-range_with_len_more f 0 k k (omega arith))

row_begins : (w b : ℕ) → 0 * w + b ≡ b
row_begins w b = omega arith

row_further : (a w b : ℕ) → suc a * w + b ≡ w + (a * w + b)
row_further a w b = omega arith

-- rows of one length, one behind the other
flat_at : (f : ℕ → List ℤ) (w : ℕ) (hs : List ℕ) → ((k : ℕ) → k < length hs → length (f (get_or hs k 0)) ≡ w)
    → (a b : ℕ) → a < length hs → b < w → get_or (flat_map f hs) (a * w + b) (pos 0) ≡ get_or (f (get_or hs a 0)) b (pos 0)
flat_at f w [] all a b ha hb = let bad : ⊥ = omega (arith, ha) in absurd bad
flat_at f w (h ∷ hs) all zero b ha hb =
    let long = all 0 (omega arith) in
    ap (λ n. get_or (f h ++ flat_map f hs) n (pos 0)) (row_begins w b)
    ∙ get_or_append_left (f h) (flat_map f hs) (pos 0) b (omega (arith, long, hb))
flat_at f w (h ∷ hs) all (suc a) b ha hb =
    let long = all 0 (omega arith) in
    ap (λ n. get_or (f h ++ flat_map f hs) n (pos 0)) (row_further a w b)
    ∙ ap (λ n. get_or (f h ++ flat_map f hs) (n + (a * w + b)) (pos 0)) (sym long)
    ∙ get_or-append-add (f h) (flat_map f hs) (a * w + b) (pos 0)
    ∙ flat_at f w hs (λ k e. all (suc k) (omega (arith, e))) a b (omega (arith, ha)) hb

flat_size : (f : ℕ → List ℤ) (w : ℕ) (hs : List ℕ) → ((k : ℕ) → k < length hs → length (f (get_or hs k 0)) ≡ w)
    → length (flat_map f hs) ≡ length hs * w
flat_size f w [] all = omega arith
flat_size f w (h ∷ hs) all =
    let long = all 0 (omega arith) in
    let rest = flat_size f w hs (λ k e. all (suc k) (omega (arith, e))) in
    length-append (f h) (flat_map f hs) ∙ (omega (arith, long, rest))

is_price : (n : ℕ) → n ≤ 10_000_000_000_000 → IsPrice (pos n)
is_price n h = record { least = omega (arith, ints); most = omega (arith, ints, h) }

pub sealed_most : (c : CaseRecord) → IsCase c → (x y : Pattern) → sealed_price c x y ≤ 10_000_000_000_000
unfolding sealed_price
sealed_most c h x y = by (are_forbidden c.station x y) refl
  where
    by : (b : Bool) → are_forbidden c.station x y ≡ b → cond b (top_of c) (pair_price c.station x y) ≤ 10_000_000_000_000
    by true e = let t = top_most c h in omega (arith, t)
    by false e =
        let p = pair_below c.station x y e in
        let d = dearest_most c.station h.station in
        omega (arith, p, d)

map_same : {A : Type 0} (f g : ℕ → A) (xs : List ℕ) → All (λ x. f x ≡ g x) xs → map f xs ≡ map g xs
map_same f g [] all = refl
map_same f g (x ∷ xs) all =
    ap (λ y. y ∷ map f xs) (All-head (λ z. f z ≡ g z) x xs all)
    ∙ ap (λ ys. g x ∷ ys) (map_same f g xs (All-tail (λ z. f z ≡ g z) x xs all))

-- what was made of two trains
pub record AreMade (c : CaseRecord) (s t : ℕ) (cols lines : List (List ℤ)) (k : ClassTable) (heads1 heads2 : List ℕ) : Type 0 where
  pub cols_are : cols ≡ columns_of c s t
  pub by_column : AreGroups cols k.of_second heads2
  pub lines_are : lines ≡ picked_lines cols heads2 (length (offers_of c.book s))
  pub by_row : AreGroups lines k.of_first heads1
  pub rows_count : k.rows ≡ length heads1
  pub columns_count : k.columns ≡ length heads2
  pub prices : k.prices ≡ flat_map (line_at lines) heads1

module _ (c : CaseRecord) (s t : ℕ) (cols lines : List (List ℤ)) (k : ClassTable) (heads1 heads2 : List ℕ)
    (m : AreMade c s t cols lines k heads1 heads2) where
  lines_length : length lines ≡ length (offers_of c.book s)
  lines_length =
      ap length m.lines_are
      ∙ length_map (picked_line cols heads2) (numbers (length (offers_of c.book s)))
      ∙ length_numbers (length (offers_of c.book s))

  cols_length : length cols ≡ length (offers_of c.book t)
  cols_length =
      ap length m.cols_are
      ∙ length_map (column c s t) (numbers (length (offers_of c.book t)))
      ∙ length_numbers (length (offers_of c.book t))

  line_is : (i : ℕ) → i < length (offers_of c.book s) → line_at lines i ≡ picked_line cols heads2 i
  line_is i h = ap (λ xs. line_at xs i) m.lines_are ∙ get_numbers (picked_line cols heads2) (length (offers_of c.book s)) i [] h

  col_is : (j : ℕ) → j < length (offers_of c.book t) → line_at cols j ≡ column c s t j
  col_is j h = ap (λ xs. line_at xs j) m.cols_are ∙ get_numbers (column c s t) (length (offers_of c.book t)) j [] h

  -- each line has a price for each class of the second train
  wide : (a : ℕ) → a < length heads1 → length (line_at lines (get_or heads1 a 0)) ≡ length heads2
  wide a h =
      let there = m.by_row.there a h in
      ap length (line_is (get_or heads1 a 0) (omega (arith, there, lines_length)))
      ∙ length_map (λ x. get_or (line_at cols x) (get_or heads1 a 0) (pos 0)) heads2

  first_long : length k.of_first ≡ length (offers_of c.book s)
  first_long = m.by_row.count ∙ lines_length

  second_long : length k.of_second ≡ length (offers_of c.book t)
  second_long = m.by_column.count ∙ cols_length

  price_at : (i j : ℕ) → i < length (offers_of c.book s) → j < length (offers_of c.book t)
      → class_price k (slice_index k.of_first i) (slice_index k.of_second j) ≡ pos (sealed_at c s t i j)
  price_at i j hi hj =
      let i_there : i < length k.of_first = omega (arith, hi, first_long) in
      let j_there : j < length k.of_second = omega (arith, hj, second_long) in
      let a : ℕ = slice_index k.of_first i in
      let b : ℕ = slice_index k.of_second j in
      let a_there = m.by_row.class i i_there in
      let b_there = m.by_column.class j j_there in
      ap (λ xs. get_or xs (a * k.columns + b) (pos 0)) m.prices
      ∙ ap (λ w. get_or (flat_map (line_at lines) heads1) (a * w + b) (pos 0)) m.columns_count
      ∙ flat_at (line_at lines) (length heads2) heads1 wide a b a_there b_there
      ∙ ap (λ xs. get_or xs b (pos 0)) (m.by_row.same i i_there)
      ∙ ap (λ xs. get_or xs b (pos 0)) (line_is i hi)
      ∙ get_map (λ x. get_or (line_at cols x) i (pos 0)) heads2 b (pos 0) b_there
      ∙ ap (λ xs. get_or xs i (pos 0)) (m.by_column.same j j_there)
      ∙ ap (λ xs. get_or xs i (pos 0)) (col_is j hj)
      ∙ get_numbers (λ n. pos (sealed_at c s t n j)) (length (offers_of c.book s)) i (pos 0) hi

  -- a price of a line that stands for a class
  price_of : (i a d : ℕ) → i < length (offers_of c.book s) → a < length heads2
      → get_or (line_at cols (get_or heads2 a d)) i (pos 0) ≡ pos (sealed_at c s t i (get_or heads2 a d))
  price_of i a d hi l =
      let same = get_or_default heads2 a d 0 l in
      let below = m.by_column.there a l in
      ap (λ xs. get_or xs i (pos 0)) (col_is (get_or heads2 a d) (omega (arith, same, below, cols_length)))
      ∙ get_numbers (λ n. pos (sealed_at c s t n (get_or heads2 a d))) (length (offers_of c.book s)) i (pos 0) hi

  one_second : (j l : ℕ) → j < length (offers_of c.book t) → l < length (offers_of c.book t)
      → ((i : ℕ) → i < length (offers_of c.book s) → sealed_at c s t i j ≡ sealed_at c s t i l)
      → slice_index k.of_second j ≡ slice_index k.of_second l
  one_second j l hj hl e =
      m.by_column.whole j l (omega (arith, hj, second_long)) (omega (arith, hl, second_long))
      (col_is j hj
      ∙ map_same (λ n. pos (sealed_at c s t n j)) (λ n. pos (sealed_at c s t n l)) (numbers (length (offers_of c.book s)))
      (λ a d h.
      let at = get_or-range_with_len 0 (length (offers_of c.book s)) a d (omega (arith, h, length_numbers (length (offers_of c.book s)))) in
      ap pos (e (get_or (numbers (length (offers_of c.book s))) a d) (omega (arith, at, h, length_numbers (length (offers_of c.book s))))))
      ∙ sym (col_is l hl))

  one_first : (i l : ℕ) → i < length (offers_of c.book s) → l < length (offers_of c.book s)
      → ((j : ℕ) → j < length (offers_of c.book t) → sealed_at c s t i j ≡ sealed_at c s t l j)
      → slice_index k.of_first i ≡ slice_index k.of_first l
  one_first i l hi hl e =
      m.by_row.whole i l (omega (arith, hi, first_long)) (omega (arith, hl, first_long))
      (line_is i hi
      ∙ map_same (λ x. get_or (line_at cols x) i (pos 0)) (λ x. get_or (line_at cols x) l (pos 0)) heads2
      (λ a d h.
      let same = get_or_default heads2 a d 0 h in
      let below = m.by_column.there a h in
      price_of i a d hi h ∙ ap pos (e (get_or heads2 a d) (omega (arith, same, below, cols_length))) ∙ sym (price_of l a d hl h))
      ∙ sym (line_is l hl))

  -- what is true of all sealed prices is true of each line
  line_each : (P : ℤ → Type 0) → ((i j : ℕ) → i < length (offers_of c.book s) → j < length (offers_of c.book t) → P (pos (sealed_at c s t i j)))
      → (i : ℕ) → i < length lines → All P (line_at lines i)
  line_each P all i h =
      let Q : List ℤ → Type 0 = All P in
      let there : i < length (offers_of c.book s) = omega (arith, h, lines_length) in
      subst Q (sym (line_is i there))
      (All-map P (λ x. get_or (line_at cols x) i (pos 0)) heads2 (λ a d l.
      let same = get_or_default heads2 a d 0 l in
      let below = m.by_column.there a l in
      subst P (sym (price_of i a d there l)) (all i (get_or heads2 a d) there (omega (arith, same, below, cols_length)))))

  heads_there : All (λ h. h < length lines) heads1
  heads_there a d l =
      let same = get_or_default heads1 a d 0 l in
      let below = m.by_row.there a l in
      omega (arith, same, below)

  -- and of each price in the table
  each_price : (P : ℤ → Type 0) → ((i j : ℕ) → i < length (offers_of c.book s) → j < length (offers_of c.book t) → P (pos (sealed_at c s t i j)))
      → All P k.prices
  each_price P all =
      let Q : List ℤ → Type 0 = All P in
      subst Q (sym m.prices) (flat_within P (λ h. h < length lines) (line_at lines) heads1 heads_there (line_each P all))

  pub priced : ArePriced c s t k
  priced = record {
    first = first_long;
    second = second_long;
    price = price_at;
    same_first = one_first;
    same_second = one_second;
    zeros = λ free. each_price (λ p. p ≡ pos 0) (λ i j hi hj. ap pos (free i j hi hj));
  }

  pub sized : IsCase c → length lines ≤ 4096 → length cols ≤ 4096 → IsClassTable k
  sized case h g = record {
    size = ap length m.prices ∙ flat_size (line_at lines) (length heads2) heads1 wide ∙ (rw (m.rows_count, m.columns_count) refl);
    first = λ i e. let f = m.by_row.class i e in omega (arith, f, m.rows_count);
    second = λ j e. let f = m.by_column.class j e in omega (arith, f, m.columns_count);
    rows_most = omega (arith, m.by_row.most, m.rows_count, h);
    columns_most = omega (arith, m.by_column.most, m.columns_count, g);
    each = each_price IsPrice (λ i j hi hj. is_price (sealed_at c s t i j) (sealed_most c case (pattern_at c.book s i) (pattern_at c.book t j)));
  }

class_in : (a b m n : ℕ) → a < m → b < n → a * n + b < m * n
class_in a b m n h k = let below = mul-le (a + 1) n m n (omega (arith, h)) (omega arith) in omega (arith, below, k)

pos_zero : (n : ℕ) → pos n ≡ pos 0 → n ≡ 0
pos_zero n e = omega (arith, ints, e)

-- a table of zeros
pub free_table : (c : CaseRecord) (s t : ℕ) (k : ClassTable) → ArePriced c s t k → IsClassTable k → All (λ p. p ≡ pos 0) k.prices → AreFree c s t
free_table c s t k p is all i j hi hj =
    let a = is.first i (omega (arith, hi, p.first)) in
    let b = is.second j (omega (arith, hj, p.second)) in
    let within = class_in (slice_index k.of_first i) (slice_index k.of_second j) k.rows k.columns a b in
    pos_zero (sealed_at c s t i j)
    (sym (p.price i j hi hj)
    ∙ all (slice_index k.of_first i * k.columns + slice_index k.of_second j) (pos 0) (omega (arith, within, is.size)))

-- each column has a price for each pattern of the first train
pub lines_long : (c : CaseRecord) (s t : ℕ) (cols : List (List ℤ)) (n : ℕ) → cols ≡ columns_of c s t → n ≡ length (offers_of c.book s)
    → All (λ line. length line ≡ n) cols
lines_long c s t cols n e f =
    let P : List (List ℤ) → Type 0 = All (λ line. length line ≡ n) in
    subst P (sym e) (All-map (λ line. length line ≡ n) (column c s t) (numbers (length (offers_of c.book t)))
    (λ k d l. length_map (λ i. pos (sealed_at c s t i (get_or (numbers (length (offers_of c.book t))) k d))) (numbers (length (offers_of c.book s)))
    ∙ length_numbers (length (offers_of c.book s)) ∙ sym f))

pub picked_long : (lines : List (List ℤ)) (picked : List ℕ) (count : ℕ) → length (picked_lines lines picked count) ≡ count
picked_long lines picked count = length_map (picked_line lines picked) (numbers count) ∙ length_numbers count

-- what stands in a list that was made number by number
pub numbered_at : {A : Type 0} (f : ℕ → A) (n : ℕ) (xs : List A) (i : ℕ) (d : A) → xs ≡ map f (numbers n) → i < n → get_or xs i d ≡ f i
numbered_at f n xs i d e h = ap (λ ys. get_or ys i d) e ∙ get_numbers f n i d h
