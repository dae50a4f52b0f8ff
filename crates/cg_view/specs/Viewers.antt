-- What a Viewer has seen.
use Rattle.left_right.specs.Sides.{view}
use Rattle.cg_view.specs.declared.rule.View.{View}
use Rattle.cg_view.specs.declared.viewer.Viewer.{Viewer}

-- what it has seen last, and so all that it has seen
abbrev pub seen_by : Viewer → View
seen_by v = view v.reader.place
