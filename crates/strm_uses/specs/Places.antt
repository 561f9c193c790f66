-- The kinds of what a resource table of places holds. Ours.
use Rattle.std.specs.Prelude.{ℕ}
use Rattle.strm_uses.specs.declared.resources.Place.{Place}
use Rattle.strm_uses.specs.declared.resources.Place.TheVariants.{File, Folder}

-- files are of the first kind, folders of the second
abbrev pub place_kind : Place → ℕ
place_kind (File number) = 1
place_kind (Folder number) = 2
