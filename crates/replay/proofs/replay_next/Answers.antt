-- A text and its report stand behind a header. Assumes nothing.
use Rattle.std.proofs.Common.{rules, ◌++◌, take, refl, ◌∙◌, length-take-le}
use Rattle.std.proofs.lemmas.Result.{err_from_is_err_and}
use Rattle.replay.proofs.ReplaySteps.{header_found, text_missing, report_missing, all_read}
use Rattle.replay.proofs.replay_next.Goals as goal

pub returns-in_err-read_part : goal.returns-in_err-read_part
returns-in_err-read_part g c =
    let header = header_found g.S.Source.gives _ _ c.read_header.new.header _ (search rules) c.in_ok-found.ensures in
    let p = err_from_is_err_and c.from_residual-in_err-read_part.result c.from_residual-in_err-read_part.ensures.1 in
    rw (p.1, p.2) (text_missing g.S.Source.gives _ _ c.read_header.new.header header (search rules) _ c.read_part.new.space _ _ (search rules) c.number-text_length.ensures c.in_err-read_part.ensures)

pub returns-in_err-read_part-2 : goal.returns-in_err-read_part-2
returns-in_err-read_part-2 g c =
    let header = header_found g.S.Source.gives _ _ c.read_header.new.header _ (search rules) c.in_ok-found.ensures in
    let (text_fits, text_read) = c.in_ok-read_part.ensures in
    let text = take c.number-text_length.result c.read_part.new.space in
    let p = err_from_is_err_and c.from_residual-in_err-read_part-2.result c.from_residual-in_err-read_part-2.ensures.1 in
    rw (p.1, p.2) (report_missing g.S.Source.gives _ _ c.read_header.new.header header (search rules) _ text text_read (length-take-le _ c.read_part.new.space text_fits ∙ c.number-text_length.ensures) _ c.read_part-2.new.space _ _ (search rules) c.number-report_length.ensures c.in_err-read_part-2.ensures)

pub returns : goal.returns
returns g c =
    let header = header_found g.S.Source.gives _ _ c.read_header.new.header _ (search rules) c.in_ok-found.ensures in
    let (text_fits, text_read) = c.in_ok-read_part.ensures in
    let (report_fits, report_read) = c.in_ok-read_part-2.ensures in
    let text = take c.number-text_length.result c.read_part.new.space in
    let wanted = take c.number-report_length.result c.read_part-2.new.space in (
      c.read_header.new.header ++ (text ++ wanted),
      all_read g.S.Source.gives _ _ c.read_header.new.header header (search rules) _ text text_read (length-take-le _ c.read_part.new.space text_fits ∙ c.number-text_length.ensures) _ wanted report_read,
      record {
        header = c.read_header.new.header;
        text = text;
        wanted = wanted;
        bytes_are = refl;
        header_size = search rules;
        text_size = length-take-le _ c.read_part.new.space text_fits ∙ c.number-text_length.ensures;
        wanted_size = length-take-le _ c.read_part-2.new.space report_fits ∙ c.number-report_length.ensures;
        judged = c.answered-same.ensures;
      },
    )
