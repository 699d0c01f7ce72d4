use Rattle.std.proofs.Common.{◌∙◌, rules, sym, ap}
use Rattle.sal_header.specs.declared.header.Kept.{Kept}
use Rattle.sal_header.specs.Headers.{header_of}
use Rattle.sal_bool.specs.Syntax.{run}
use Rattle.sal_decode.proofs.HeadRead.{header_key}
use Rattle.sal_decode.proofs.FrameRead.{tag_fails, size_fails, part_fails, parts_fail, frame_read, few_parts, same_kind}
use Rattle.sal_decode.proofs.head.read_head.Goals as goal

pub returns-in_err-tag-clause-fault : goal.returns-in_err-tag-clause-fault
returns-in_err-tag-clause-fault c =
    let e = tag_fails c.args.state.now c.args.bytes.now c.in_err-tag.field-0.0 (sym c.read_tag.ensures.value ∙ c.in_err-tag.was) in
    search (rules, e)

pub returns-in_err-width-clause-fault : goal.returns-in_err-width-clause-fault
returns-in_err-width-clause-fault c =
    let e = size_fails c.args.state.now c.args.bytes.now c.in_ok-tag.tag c.in_err-width.field-0.0 (sym c.read_tag.ensures.value ∙ c.in_ok-tag.was) (sym c.size.ensures.value ∙ c.in_err-width.was) in
    search (rules, e)

pub returns-in_err-first_part-clause-fault : goal.returns-in_err-first_part-clause-fault
returns-in_err-first_part-clause-fault c =
    let e = part_fails c.args.state.now c.args.bytes.now c.in_ok-tag.tag (c.in_ok-width.width, c.in_ok-width.height) c.in_err-first_part.field-0.0 (sym c.read_tag.ensures.value ∙ c.in_ok-tag.was) (sym c.size.ensures.value ∙ c.in_ok-width.was) c.in_err-first_part.ensures.fault in
    search (rules, e)

pub returns-in_err-parts-clause-fault : goal.returns-in_err-parts-clause-fault
returns-in_err-parts-clause-fault c =
    let read = ap (λ (k : Kept). run (header_of c.in_ok-tag.tag.key c.in_ok-tag.tag.shown k) c.new-decoder.result) (sym c.kept.ensures.kept) ∙ c.read_header-header.ensures.reads in
    let e = parts_fail c.args.state.now c.args.bytes.now c.in_ok-tag.tag c.in_ok-width.width c.in_ok-width.height c.in_ok-first_part.field-0.now c.new-decoder.result c.read_header-header.new.decoder c.read_header-header.result
    (sym c.read_tag.ensures.value ∙ c.in_ok-tag.was) (sym c.size.ensures.value ∙ c.in_ok-width.was) c.in_ok-first_part.ensures.part c.new-decoder.ensures.exact read c.in_err-parts.field-0.0 c.in_err-parts.ensures.fault in
    search (rules, e)

pub returns-clause-read : goal.returns-clause-read
returns-clause-read c ms d e =
    let read = ap (λ (k : Kept). run (header_of c.in_ok-tag.tag.key c.in_ok-tag.tag.shown k) c.new-decoder.result) (sym c.kept.ensures.kept) ∙ c.read_header-header.ensures.reads in
    frame_read c.args.state.now c.args.bytes.now c.in_ok-tag.tag c.in_ok-width.width c.in_ok-width.height c.in_ok-first_part.field-0.now c.new-decoder.result c.read_header-header.new.decoder c.read_header-header.result
    (sym c.read_tag.ensures.value ∙ c.in_ok-tag.was) (sym c.size.ensures.value ∙ c.in_ok-width.was) c.in_ok-first_part.ensures.part c.new-decoder.ensures.exact read _ ms d c.in_ok-parts.ensures.parts e

pub returns-clause-first : goal.returns-clause-first
returns-clause-first c none =
    header_key c.in_ok-tag.tag c.kept.result.now c.new-decoder.result c.read_header-header.new.decoder c.read_header-header.result c.read_header-header.ensures.reads ∙ c.in_ok-width.ensures.first none

pub returns-clause-same : goal.returns-clause-same
returns-clause-same c =
    same_kind c.args.state.now.references c.read_header-header.result.key c.in_ok-tag.tag.key c.in_ok-width.width c.in_ok-width.height
    (header_key c.in_ok-tag.tag c.kept.result.now c.new-decoder.result c.read_header-header.new.decoder c.read_header-header.result c.read_header-header.ensures.reads) c.in_ok-width.ensures.same

pub returns-clause-count : goal.returns-clause-count
returns-clause-count c = few_parts c.in_ok-parts.parts.count c.read_header-header.result.log2 c.read_header-header.ensures.range.log2 c.in_ok-parts.ensures.count
