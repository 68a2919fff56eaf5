-- What a run over a mailbox may do, and on which sides the mailbox is made.
use Rattle.std.specs.Prelude.{Bool, true, not, ◌&&◌, Option, None, Some, unwrap_or, if◌then◌else◌}
use Rattle.mailcore.specs.declared.side.Side.{Side}
use Rattle.mailcore.specs.declared.side.Side.TheVariants.{Far, Near}
use Rattle.rules.specs.declared.options.Cells.{Cells}
use Rattle.rules.specs.declared.options.Options.{Options}
use Rattle.rules.specs.declared.options.Sides.{Sides}
use Rattle.config.specs.declared.config.Channel.{Channel}

abbrev pub both : Sides
both = record { far = true; near = true }

-- the cells of the command line stand in place of the channel's, and so does its Expunge; the keywords are the channel's
abbrev pub options_of : Channel → Option Cells → (expunges : Bool) → Options
options_of channel cells expunges = record {
  cells = unwrap_or cells channel.cells;
  expunge = if expunges then both else channel.expunge;
  keywords = channel.keywords;
}

-- the first side, far before near, on which a mailbox is absent and may not be made
abbrev pub uncovered : (absent create : Sides) → Option Side
uncovered absent create =
    if absent.far && not create.far then Some Far else (if absent.near && not create.near then Some Near else None)
