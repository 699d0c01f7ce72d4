use Rattle.std.proofs.Common.{◌++◌, drop}
use Rattle.sal_decode_ffi.specs.Answers.{answers_from}
use Rattle.sal_decode_ffi.proofs.Frames.{AllSo}
use Rattle.sal_decode_ffi.proofs.answers.put_answers.Given as goal

-- with the answers to the frames that are left it is all
abbrev pub invariant-loop-size : goal.invariant-loop-size
invariant-loop-size l = AllSo (l.fn.text.items ++ answers_from l.fn.state l.lengths l.fn.bytes) l.state (drop l.size-index l.lengths) l.rest l.text.items
