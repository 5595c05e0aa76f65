-- What a table says of each place.
use Rattle.std.specs.Prelude.{List, Option}
use Rattle.cells.specs.declared.row.Counts.{Counts}
use Rattle.cells.specs.declared.row.Link.{Link}
use Rattle.cells.specs.declared.table.Table.{Table}
use Rattle.cells.specs.Rows.{counts_of, links_of}

abbrev pub counts_in : Table → List Counts
counts_in t = counts_of t.rows

abbrev pub links_in : Table → List (Option Link)
links_in t = links_of t.rows
