-- What pages of items are seen as.
use Rattle.std.specs.Prelude.{◌≡◌, ◌<◌, List, length, flat_map}
use Rattle.std.specs.declared.vec.Vec.{Vec}
use Rattle.std.specs.declared.vec.IntoIter.{IntoIter}
use Rattle.std.specs.Vec.Iter.{into_iter_items, into_iter_len}

-- the items of all pages, in their order
abbrev pub items_in : {T A : Type 0} → List (Vec T A) → List T
items_in pages = flat_map (λ page. page.items) pages

-- a page has an item
abbrev pub IsFilled : {T A : Type 0} → Vec T A → Type 0
IsFilled page = 0 < length page.items

-- it counts the items that it has left
abbrev pub IsCounted : {T A : Type 0} → IntoIter T A → Type 0
IsCounted left = into_iter_len left ≡ length (into_iter_items left)
