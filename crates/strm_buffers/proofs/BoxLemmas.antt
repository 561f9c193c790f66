-- Lists that are seen through a function, as boxes through what they tell.
use Rattle.std.proofs.lemmas.Grind.{common_steps}
use Rattle.std.proofs.lemmas.List.{map-set, get_or-map, length-map}
use Rattle.std.proofs.Math.Seq.{map-set_same}

-- what is seen through a function, where one place was written
pub ruleset boxes = (common_steps, map-set, get_or-map, length-map)

-- where what was written is seen as what was there
pub ruleset same_boxes = (map-set, get_or-map, map-set_same, length-map)
