-- What the code's record of a run stands for.
use Rattle.std.specs.Prelude.{◌≡◌}
use Rattle.actx_match.specs.Traced.{Seen}
use Rattle.actx_data.specs.declared.end.End.{End}
use Rattle.actx_data.specs.declared.trace.TraceEvent.{TraceEvent}
use Rattle.actx_rules.specs.Meaning.{lines_of}
use Rattle.actx_top.specs.declared.execute.Run.{Run}

-- the record has the lines and the end of what a run shows
pub record Ends (run : Run) (seen : Seen TraceEvent End) : Type 0 where
  pub lines : run.lines.items ≡ lines_of seen.trace
  pub end : run.end ≡ seen.end
