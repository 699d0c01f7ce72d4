-- How a run ends that stops.
use Rattle.std.specs.Prelude.{Result, Ok, Err}
use Rattle.sal_y4m.specs.declared.fault.Y4mFault.{Y4mFault}
use Rattle.sal_y4m.specs.declared.fault.Y4mFault.TheVariants as y4m
use Rattle.sal_world.specs.declared.diary.DiaryFault.TheVariants as diary
use Rattle.sal_run.specs.declared.end.Which.TheVariants.{Out as OutFile, Journal}
use Rattle.sal_run.specs.declared.end.Summary.{Summary}
use Rattle.sal_run.specs.declared.end.RunEnd.{RunEnd}
use Rattle.sal_run.specs.declared.end.RunEnd.TheVariants as run
use Rattle.sal_run.specs.declared.stop.RunStop.{RunStop}
use Rattle.sal_run.specs.declared.stop.RunStop.TheVariants.{BadInput, BadScript, TooMany, TooLong, ReadFault, Out, Diary, Memory}

abbrev pub end_of : RunStop → RunEnd
end_of (BadInput place why) = run.BadInput place why
end_of (BadScript line) = run.BadScript line
end_of TooMany = run.TooMany
end_of TooLong = run.TooLong
end_of ReadFault = run.ReadFault
end_of Out = run.WriteFault OutFile
end_of (Diary diary.Failed) = run.WriteFault Journal
end_of (Diary diary.TooLong) = run.TooLong
end_of (Diary diary.Memory) = run.Memory
end_of Memory = run.Memory

-- why a run stops at a fault of the input
abbrev pub stop_of : Y4mFault → RunStop
stop_of (y4m.Bad place why) = BadInput place why
stop_of y4m.ReadFault = ReadFault
stop_of y4m.Memory = Memory

-- how a run ends that stops, or doesn't
abbrev pub run_end : Result Summary RunStop → RunEnd
run_end (Ok summary) = run.Ok summary
run_end (Err stop) = end_of stop
