-- What an argument asks of the program.
use Rattle.std.specs.Prelude.{cond, List, ℕ}
use Rattle.masks.specs.Bytes.{bytes, same_bytes}
use Rattle.terminal.specs.declared.options.Wish.{Wish}
use Rattle.terminal.specs.declared.options.Wish.TheVariants.{Help, Version, Unknown}

abbrev pub asked : List ℕ → Wish
asked word = cond (same_bytes word (bytes "--help")) Help (cond (same_bytes word (bytes "--version")) Version Unknown)
