-- `write_listing` meets its contract.
-- Codes of lines, written from the start, are their listing; there is room for them where there is room for it.
use Rattle.writer.proofs.Listed.{ready_room, codes_listed}
use Rattle.writer.proofs.write.write_listing.Goals as goal

pub write_codes-requires : goal.write_codes-requires
write_codes-requires c = record { room = ready_room c.args.tables.now c.args.rec.now c.args.codes.now c.args.text.now c.args.ends.now c.args.kinds.now c.args.lines.now c.requires; codes_value = c.requires.within }

pub returns : goal.returns
returns c = codes_listed c.args.tables.now c.args.rec.now c.args.codes.now c.args.text.now _ c.args.ends.now _ c.args.kinds.now _ c.args.lines.now _ _ c.write_codes.ensures
