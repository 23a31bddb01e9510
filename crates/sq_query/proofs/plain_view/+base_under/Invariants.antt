use Rattle.sq_query.proofs.plain_view.+base_under.Given as goal

abbrev pub decreases-base_under : goal.decreases-base_under
decreases-base_under g l = l.view
