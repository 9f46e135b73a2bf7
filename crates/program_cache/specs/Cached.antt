-- What a cache keeps.
use Rattle.std.specs.Prelude.{ℕ, List, Contains}
use Rattle.jam_codec.specs.Format.{Spells}
use Rattle.blob_decode.specs.Program.{program_blob}
use Rattle.program_cache.specs.declared.cache.Cached.{Cached}

-- the program is the one that the bytes spell
abbrev pub IsCached : Cached → Type 0
IsCached c = Spells program_blob c.program.value c.bytes.items

-- each is, whatever digest it stands under
abbrev pub AreCached : List (List ℕ × Cached) → Type 0
AreCached es = (e : List ℕ × Cached) → Contains es e → IsCached e.1
