use Rattle.am_classes.proofs.finder.Finder.finds.Goals as goal

pub accepts-requires : goal.accepts-requires
accepts-requires c = c.reads.ensures.0 c.if-reads.true
