use Rattle.drawing.proofs.DrawnViews.{few}
use Rattle.draw_core.proofs.run.made_of.Goals as goal

pub summary_of-requires-clause-few : goal.summary_of-requires-clause-few
summary_of-requires-clause-few g c = few c.args.taken.drawing c.requires.shows.shows
