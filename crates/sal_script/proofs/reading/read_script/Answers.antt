use Rattle.sal_script.proofs.ReadLemmas.{more_given, completed}
use Rattle.sal_script.proofs.WordLemmas.{says_of, says_all}
use Rattle.sal_script.proofs.reading.read_script.Goals as goal

pub returns-in-More-clause-told : goal.returns-in-More-clause-told
returns-in-More-clause-told g c =
    more_given _ _ _ _ _ c.in-More.ensures.bytes.0 c.in-More.ensures.bytes.1 c.as_slice-in-More.ensures c.parse_lines-in-More.ensures.said

pub returns-in-More-clause-says : goal.returns-in-More-clause-says
returns-in-More-clause-says g c = says_of _ _ _ (returns-in-More-clause-told g c)

pub returns-in-More-clause-complete : goal.returns-in-More-clause-complete
returns-in-More-clause-complete g c =
    λ still. completed _ _ _ _ c.parse_lines-in-More.ensures.said (returns-in-More-clause-told g c)

pub returns-in-All-clause-says : goal.returns-in-All-clause-says
returns-in-All-clause-says g c = says_all _ _ _ _ c.in-All.ensures.bytes.1 c.as_slice.ensures c.parse_lines.ensures.said
