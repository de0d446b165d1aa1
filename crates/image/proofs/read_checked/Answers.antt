use Rattle.std.proofs.Common.{sym}
use Rattle.image.proofs.Calls.{load_tested, read_blank}
use Rattle.image.proofs.read_checked.Goals as goal

pub well_formed_read-formed-requires : goal.well_formed_read-formed-requires
well_formed_read-formed-requires c = read_blank c.args.s.now _ c.read_image-read.ensures.0

pub returns : goal.returns
returns c =
    let read = c.read_image-read in
    let tested = load_tested c.args.s.now _ read.ensures.0 read.ensures.2 _ _ c.well_formed_read-formed.ensures read.ensures.1 in
    (sym (rw (← c.is_empty.ensures) at tested), read.ensures.0)
