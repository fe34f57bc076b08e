use Rattle.master_lp.proofs.source.RowSource.new.Goals as goal

pub invariant_of-result : goal.invariant_of-result
invariant_of-result c = record {
  layout = c.requires.layout;
  same = c.requires.lists;
  meetings = c.requires.meetings;
  opened = record {
    trains = c.in_ok-first.ensures.rows;
    opens = c.in_ok-first.ensures.opening;
    meets = c.in_ok-first.ensures.meets c.args.case.now;
  };
}
