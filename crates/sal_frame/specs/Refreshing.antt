-- Whether a frame makes a new reference.
use Rattle.std.specs.Prelude.{Bool, ◌||◌}
use Rattle.sal_header.specs.declared.header.Header.{Header}

-- a key frame does, and an inter frame that refreshes one (9.7 and 9.8)
abbrev pub refreshes : Header → Bool
refreshes h = h.key || (h.refresh_last || (h.refresh_golden || h.refresh_alt))
