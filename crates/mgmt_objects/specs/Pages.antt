-- Lists of what a reply shows.
use Rattle.std.specs.Prelude.{ℕ, List, codes, length}
use Rattle.serde_json.specs.Data.{Data, number, unsigned, array, object, member, no_members, item, no_items}
use Rattle.serde_json.specs.View.{items_of}

-- a whole number
abbrev pub whole : ℕ → Data
whole n = number (unsigned n)

-- the array of one
abbrev pub single : Data → Data
single shown = array (item shown no_items)

-- a page: what it shows, how many these are, and how many there are in all
abbrev pub page_data : List Data → ℕ → Data
page_data shown total = object (member (codes "content") (array (items_of shown))
    (member (codes "size") (whole (length shown)) (member (codes "total") (whole total) no_members)))
