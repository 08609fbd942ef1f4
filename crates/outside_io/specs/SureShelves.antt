-- a shelf in memory that never fails
use Rattle.std.specs.Prelude.{List, Some}
use Rattle.outside_io.specs.HeldFiles.{held_under}
use Rattle.outside_io.specs.Shelves.{Contents}
use Rattle.outside_io.specs.declared.held.Held.{Held}
use Rattle.outside_io.specs.declared.sure_shelf.SureShelf.{SureShelf}

-- what stands under each name
abbrev pub contents_of : SureShelf → Contents
contents_of shelf = Some (held_under shelf.held)

-- the shelf of these files before its first call
abbrev pub fresh_shelf : List Held → SureShelf
fresh_shelf held = record { held = held; misses = 0 }
