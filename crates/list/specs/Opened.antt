-- An opened list by its names. Assumes nothing.
use Rattle.std.specs.Prelude.{List, map, vec_items}
use Rattle.byte_strings.specs.Order.{Bytes}
use Rattle.names.specs.declared.name.Name.{Name}
use Rattle.names.specs.Names.{names_of}
use Rattle.list.specs.declared.list.List.{List as Opened}
use Rattle.list.specs.Marks.{unmarked}

-- the rows of an opened list
abbrev pub rows_in : Opened → List Name
rows_in l = map unmarked (vec_items l.rows)

-- the names of an opened list
abbrev pub names_in : Opened → List Bytes
names_in l = names_of (vec_items l.text) (rows_in l)
