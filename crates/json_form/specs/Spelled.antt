-- The value that a text spells as JSON.
use Rattle.std.specs.Prelude.{ℕ, List, if◌then◌else◌, Option, None}
use Rattle.std.specs.Str.{is_utf8}
use Rattle.serde_json.specs.Data.{Data}
use Rattle.serde_json.specs.Read.{read}

-- the value of these bytes, if they are UTF-8 and `serde_json` reads one
unfoldable pub spelled : List ℕ → Option Data
spelled bytes = if is_utf8 bytes then read bytes else None
