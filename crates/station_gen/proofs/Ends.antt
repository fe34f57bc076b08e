-- What the loops over directions, platforms and trains end with.
use Rattle.std.proofs.Common.{◌≡◌, ℕ, ◌+◌, ◌-◌, ◌*◌, ◌≤◌, append-nil, List, [], ◌∷◌, ◌++◌, map, length, sym, ap, ◌∙◌, subst, append_assoc, true, slice_index_or, lit≤}
use Rattle.std.specs.Prelude.{decimal}
use Rattle.std.specs.List.{flat_map}
use Rattle.station.specs.declared.part.Platform.{Platform}
use Rattle.station.specs.declared.part.Path.{Path}
use Rattle.station.specs.declared.part.PathWay.{PathWay}
use Rattle.station.specs.declared.part.PathPair.{PathPair}
use Rattle.station.specs.Allowed.{numbers}
use Rattle.station_reader.proofs.Rows.{rows_from, rows_from-end}
use Rattle.station.specs.Named.{is_name}
use Rattle.station_gen.specs.Made.{made_directions, regular, dummy, made_platforms, letter, path_name, paths_between, paths_of, made_paths, made_trains, made_train, state_after, is_alike_pair, alike_pairs}

pub named_as : (bs ns : List ℕ) → bs ≡ ns → is_name ns ≡ true → is_name bs ≡ true
named_as bs ns e h = subst (λ x. is_name x ≡ true) (sym e) h

pub directions_all : (k : ℕ) → k ≡ 4 → map (λ d. slice_index_or made_directions d []) (numbers k) ≡ made_directions
unfolding made_directions
directions_all k e = ap (λ n. map (λ d. slice_index_or made_directions d []) (numbers n)) e

pub platforms_all : (k : ℕ) (old new : List Platform) (d : Platform) → old ≡ map regular (numbers k) → k ≡ 5 → new ≡ old ++ d ∷ [] → d ≡ dummy → new ≡ made_platforms
unfolding made_platforms
platforms_all k old new d so_far e grown is = grown ∙ ap (λ xs. xs ++ d ∷ []) (so_far ∙ ap (λ n. map regular (numbers n)) e) ∙ ap (λ x. map regular (numbers 5) ++ x ∷ []) is

pub paths_of_all : (d k : ℕ) (before new : List Path) → new ≡ before ++ flat_map (paths_between d) (numbers k) → k ≡ 5 → new ≡ before ++ paths_of d
unfolding paths_of
paths_of_all d k before new so_far e = so_far ∙ ap (λ n. before ++ flat_map (paths_between d) (numbers n)) e

pub paths_all : (k : ℕ) (new : List Path) → new ≡ flat_map paths_of (numbers k) → k ≡ 4 → new ≡ made_paths
unfolding made_paths
paths_all k new so_far e = so_far ∙ ap (λ n. flat_map paths_of (numbers n)) e

pub trains_all : (number k n : ℕ) → k ≡ n → map (λ j. made_train (state_after number (5 * j)) j) (numbers k) ≡ made_trains number n
unfolding made_trains
trains_all number k n e = ap (λ m. map (λ j. made_train (state_after number (5 * j)) j) (numbers m)) e

pub few_paths : length made_paths ≤ 500
unfolding made_paths paths_of
few_paths = lit≤ tt

-- the text of a path's name
pub path_text : (bs direction_text mark : List ℕ) (direction platform : ℕ) (way : PathWay) → bs ≡ direction_text ++ (mark ++ decimal (platform + 1))
    → direction_text ≡ slice_index_or made_directions direction [] → mark ≡ letter way → bs ≡ path_name direction platform way
path_text bs direction_text mark direction platform way is e f = is ∙ sym (append_assoc direction_text mark (decimal (platform + 1))) ∙ ap (λ xs. xs ++ mark ++ decimal (platform + 1)) e ∙ ap (λ xs. slice_index_or made_directions direction [] ++ xs ++ decimal (platform + 1)) f

pub pairs_all : (paths : List Path) (first : ℕ) (new : List PathPair)
    → new ++ rows_from (is_alike_pair paths) (length paths) first (length paths - first) ≡ rows_from (is_alike_pair paths) (length paths) 0 (length paths) → length paths ≤ first → new ≡ alike_pairs paths
unfolding alike_pairs
pairs_all paths first new so_far past =
    sym (append-nil new) ∙ ap (λ xs. new ++ xs) (sym (rows_from-end (is_alike_pair paths) (length paths) first past)) ∙ so_far
