use Rattle.sal_bool.specs.Syntax.{leaf}
use Rattle.sal_tables.specs.Trees.{segment_entries}
use Rattle.sal_modes.proofs.InterLemmas.{unread}
use Rattle.sal_modes.proofs.read.read_segment.Goals as goal

pub returns-else-header-clause-reads : goal.returns-else-header-clause-reads
returns-else-header-clause-reads c = unread c.args.header.now.update_map (leaf segment_entries c.args.header.now.map) 0 _ c.if-header.false
