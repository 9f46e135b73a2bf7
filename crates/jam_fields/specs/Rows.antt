-- Items that stand one after another.
use Rattle.std.specs.Prelude.{◌-◌, List, length, Option, slice_get}

-- the last item
unfoldable pub last_item : {A : Type 0} → List A → Option A
last_item xs = slice_get xs (length xs - 1)
