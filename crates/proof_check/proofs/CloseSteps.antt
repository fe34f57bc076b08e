-- A walk: what the end of a leaf leads to.
use Rattle.std.proofs.Common.{◌≡◌, Bool, true, false, cond, List, [], ◌∷◌, refl, sym, ap, subst, ◌∙◌, Some, None, Option, Result, Ok, Err}
use Rattle.std.specs.Prelude.{All, IsErrAnd}
use Rattle.std.specs.Option.{option_map}
use Rattle.patterns.specs.Allowed.{FitsBook, Lists}
use Rattle.pair_prices.specs.Case.{CaseRecord}
use Rattle.leaf_bounds.specs.declared.check.LeafValue.{LeafValue}
use Rattle.leaf_bounds.specs.declared.check.LeafFault.{LeafFault}
use Rattle.leaf_bounds.specs.declared.check.LeafFault.TheVariants.{Pair as PairFault, Pattern as PatternFault}
use Rattle.leaf_bounds.specs.declared.check.PairPlace.{PairPlace}
use Rattle.leaf_bounds.specs.declared.check.PatternPlace.{PatternPlace}
use Rattle.leaf_bounds.specs.declared.leaf.Leaf.{Leaf}
use Rattle.leaf_bounds.specs.declared.tree.Bound.{Bound}
use Rattle.leaf_bounds.specs.Leaf.{LeafRecord, bound_of}
use Rattle.leaf_bounds.specs.Shown.{ArePlaces, numbers_of}
use Rattle.leaf_bounds.specs.Tree.{lesser}
use Rattle.leaf_bounds.specs.Verdict.{answer_of, first_pair, first_pattern, verdict_by, verdict_of}
use Rattle.proof_file.specs.declared.record.ProofRecord.TheVariants.{Close}
use Rattle.proof_rules.specs.Fault.{State, OpenLeaf as LeafSoFar, after, closed}
use Rattle.proof_rules.specs.declared.refused.ProofKind.{ProofKind}
use Rattle.proof_rules.specs.declared.refused.ProofKind.TheVariants.{Place, Pair, Pattern}
use Rattle.proof_check.specs.declared.leaf.OpenLeaf.{OpenLeaf}
use Rattle.proof_check.specs.declared.splits.Splits.{Splits}
use Rattle.proof_check.specs.declared.stage.Stage.{Stage}
use Rattle.proof_check.specs.declared.stop.Stop.{Stop}
use Rattle.proof_check.specs.declared.stop.Stop.TheVariants.{Memory, Refused}
use Rattle.proof_check.specs.declared.walk.Walk.{Walk}
use Rattle.proof_check.specs.Due.{AreOpen, due_now, due_of, later_of}
use Rattle.proof_check.specs.Going.{Follows}
use Rattle.proof_check.specs.Open.{IsClosed, leaf_of, numbers_so_far}
use Rattle.proof_check.specs.Tables.{groups_of}
use Rattle.proof_check.specs.Walk.{IsSound, IsStep, bound_told, checked_bound, has_nodes, is_head, is_over, is_tree, stage_by, state_of}
use Rattle.proof_check.proofs.CloseLemmas.{closed_numbers, closed_places}
use Rattle.proof_check.proofs.NodeSteps.{leaf_fits, node_state, rest_of_fits}
use Rattle.proof_check.proofs.WalkSteps.{free_of, leaf_has_nodes, leaf_in_tree, nodes_not_head, nodes_not_over, open_state, some_leaf}

-- a leaf that stands has its own value
verdict_value : (c : CaseRecord) (lists : Lists) (n : LeafRecord) (v : LeafValue) → verdict_of c lists n ≡ Ok v → v ≡ answer_of c n
unfolding verdict_of
verdict_value c lists n v e = by (first_pair c lists n) (first_pattern c lists n) e
  where
    by : (o : Option PairPlace) (q : Option PatternPlace) → verdict_by o q (answer_of c n) ≡ Ok v → v ≡ answer_of c n
    by (Some p) q f = absurd (cc)
    by None (Some x) f = absurd (cc)
    by None None f = let same : answer_of c n ≡ v = cc in sym same

-- what a verdict leads to
closed_no : (c : CaseRecord) (s : State) (n : LeafRecord) (v : Result LeafValue LeafFault) (due : List Lists) (P : State → Type 0) (kind : ProofKind)
    → checked_bound v ≡ Err (Refused kind) → Follows (closed c s n v due) P (Err (Refused kind))
closed_no c s n (Ok v) due P kind e = absurd (cc)
closed_no c s n (Err (PairFault x)) due P kind e = let same : Pair ≡ kind = cc in sym same
closed_no c s n (Err (PatternFault x)) due P kind e = let same : Pattern ≡ kind = cc in sym same

closed_yes : (c : CaseRecord) (s : State) (n : LeafRecord) (v : Result LeafValue LeafFault) (lists : Lists) (rest : List Lists) (bound : Bound) (P : State → Type 0)
    → ((x : LeafValue) → v ≡ Ok x → x ≡ answer_of c n) → checked_bound v ≡ Ok bound
    → (bound ≡ bound_of c n → P (record s { leaf = None; due = rest; least = lesser s.least (bound_of c n) }))
    → Follows (closed c s n v (lists ∷ rest)) P (Ok tt)
closed_yes c s n (Err (PairFault x)) lists rest bound P its e f = absurd (cc)
closed_yes c s n (Err (PatternFault x)) lists rest bound P its e f = absurd (cc)
closed_yes c s n (Ok v) lists rest bound P its e f =
    let told : bound_told v ≡ bound = cc in
    f (sym told ∙ ap bound_told (its v refl))

more_nodes : (more : Bool) (S : Splits) → cond (has_nodes (stage_by more)) (due_of S) [] ≡ due_now S more
more_nodes true S = refl
more_nodes false S = refl

stage_tree : (more : Bool) → is_tree (stage_by more) ≡ true
stage_tree true = refl
stage_tree false = refl

stage_on : (more : Bool) → is_over (stage_by more) ≡ false
stage_on true = refl
stage_on false = refl

stage_behind : (more : Bool) → is_head (stage_by more) ≡ false
stage_behind true = refl
stage_behind false = refl

pub close_none : (c : CaseRecord) (old : Walk) (P : State → Type 0) → old.leaf ≡ None → Follows (after c (state_of old) Close) P (Err (Refused Place))
unfolding after
close_none c old P e =
    subst (λ (o : Option LeafSoFar). Follows (after c (record (state_of old) { leaf = o }) Close) P (Err (Refused Place))) (sym (ap (option_map leaf_of) e)) refl

module _ (c : CaseRecord) (old : Walk) (h : IsSound c old) (o : OpenLeaf) (e : old.leaf ≡ Some o) (l : Leaf) (shut : IsClosed o l) where
  abbrev Stands : Walk → State → Type 0
  Stands new s = (state_of new ≡ s) × IsSound c new

  abbrev so_far : LeafRecord
  so_far = numbers_so_far (groups_of old.tables) old.splits.lists.lists (leaf_of o)

  same_verdict : verdict_of c old.splits.lists.lists (numbers_of l) ≡ verdict_of c old.splits.lists.lists so_far
  same_verdict = ap (λ (n : LeafRecord). verdict_of c old.splits.lists.lists n)
      (closed_numbers c (groups_of old.tables) old.splits.lists.lists o l (h.leaf o e) shut (leaf_fits c old h o e))

  pub close_places : ArePlaces c old.splits.lists.lists l
  close_places = closed_places c (groups_of old.tables) old.splits.lists.lists o l (h.leaf o e) shut (leaf_fits c old h o e)

  nodes : has_nodes old.stage ≡ true
  nodes = leaf_has_nodes old.stage (h.inside (some_leaf old.leaf o e))

  refused : (P : State → Type 0) (kind : ProofKind) → checked_bound (verdict_of c old.splits.lists.lists (numbers_of l)) ≡ Err (Refused kind)
      → Follows (after c (state_of old) Close) P (Err (Refused kind))
  unfolding after
  refused P kind f =
      subst (λ (s : State). Follows (after c s Close) P (Err (Refused kind))) (sym (open_state old (Some o) nodes e))
      (closed_no c (node_state c old h (Some o)) so_far (verdict_of c old.splits.lists.lists so_far) (due_of old.splits) P kind
      (ap checked_bound (sym same_verdict) ∙ f))

  pub close_stops : (P : State → Type 0) (result : Result (Unit {0}) Stop) (stop : Stop) → IsErrAnd result (λ s. s ≡ stop)
      → Err stop ≡ checked_bound (verdict_of c old.splits.lists.lists (numbers_of l)) → Follows (after c (state_of old) Close) P result
  close_stops P (Ok done) stop f g = absurd f
  close_stops P (Err Memory) stop f g = free_of (after c (state_of old) Close) P
  close_stops P (Err (Refused kind)) stop f g = refused P kind (sym g ∙ ap (λ s. Err s) (sym f))

  pub close_done : (more : Bool) (S : Splits) (bound least : Bound) → Ok bound ≡ checked_bound (verdict_of c old.splits.lists.lists (numbers_of l))
      → least ≡ lesser old.least bound → later_of old.splits ≡ due_now S more → AreOpen S
      → IsStep c old Close (record old { stage = stage_by more; splits = S; leaf = None; least = least }) (Ok tt)
  unfolding after
  close_done more S bound least f lowest due opened =
      let new : Walk = record old { stage = stage_by more; splits = S; leaf = None; least = least } in
      subst (λ (s : State). Follows (after c s Close) (λ q. Stands new q) (Ok tt)) (sym (open_state old (Some o) nodes e))
      (closed_yes c (node_state c old h (Some o)) so_far (verdict_of c old.splits.lists.lists so_far) old.splits.lists.lists (later_of old.splits) bound
      (λ q. Stands new q) (λ x g. verdict_value c old.splits.lists.lists so_far x g) (ap checked_bound (sym same_verdict) ∙ sym f)
      (λ its. (
        λ i. record {
          version = old.version;
          tables = groups_of old.tables;
          is_tree = (stage_tree more ∙ sym (leaf_in_tree old.stage (h.inside (some_leaf old.leaf o e)))) i;
          due = (more_nodes more S ∙ sym due) i;
          leaf = None;
          least = (lowest ∙ ap (λ (b : Bound). lesser old.least b) its) i;
          is_over = (stage_on more ∙ sym (nodes_not_over old.stage nodes)) i;
        },
        record {
          book = h.book;
          head = h.head ∙ nodes_not_head old.stage nodes ∙ sym (stage_behind more);
          there = h.there;
          open_splits = opened;
          fits = subst (λ (ls : List Lists). All (λ q. FitsBook q c.book) ls) (sym (more_nodes more S ∙ sym due)) (rest_of_fits c old h nodes);
          full = λ g. absurd (differs (stage_behind more) g);
          inside = λ g. absurd (cc);
          leaf = λ p g. absurd (cc);
        },
      )))
    where
      differs : {b : Bool} → b ≡ false → b ≡ true → ⊥
      differs f g = cc

  pub close_ended : (more : Bool) (S : Splits) (bound least : Bound) (stage : Stage) (none : Option OpenLeaf)
      → Ok bound ≡ checked_bound (verdict_of c old.splits.lists.lists (numbers_of l))
      → least ≡ lesser old.least bound → later_of old.splits ≡ due_now S more → AreOpen S → stage ≡ stage_by more → none ≡ None
      → IsStep c old Close (record old { stage = stage; splits = S; leaf = none; least = least }) (Ok tt)
  close_ended more S bound least stage none f lowest due opened at gone =
      subst (λ (t : Stage). IsStep c old Close (record old { stage = t; splits = S; leaf = none; least = least }) (Ok tt)) (sym at)
      (subst (λ (p : Option OpenLeaf). IsStep c old Close (record old { stage = stage_by more; splits = S; leaf = p; least = least }) (Ok tt)) (sym gone)
      (close_done more S bound least f lowest due opened))
