-- The name of a state.
use Rattle.std.specs.Prelude.{ℕ, List, ◌++◌, take, replicate}
use Rattle.sal_state.specs.States.{StateData}
use Rattle.sal_state.specs.Digest.{digest_of}

-- a state's name: the first eight bytes of its digest and eight zeros
abbrev pub name_of : StateData → List ℕ
name_of s = take 8 (digest_of s) ++ replicate 8 0
