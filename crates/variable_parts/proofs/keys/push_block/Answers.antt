use Rattle.std.proofs.Common.{◌++◌, ◌∙◌, replicate, sym, ap, subst}
use Rattle.std.proofs.lemmas.Result.{on_ok_weaker}
use Rattle.order_literals.specs.declared.block.Block.{Block}
use Rattle.variable_parts.specs.Told.{HasAttr, IsBlockIn, block_keys}
use Rattle.variable_parts.proofs.BlockKeys.{of_answers, of_pairs, put_lasts, put_tops}
use Rattle.variable_parts.proofs.keys.push_block.Goals as goal

pub returns-in-Pairs : goal.returns-in-Pairs
returns-in-Pairs c =
    let d = c.args.source.now in
    let keys = c.args.keys.now.items in
    let has : HasAttr d c.in-Pairs.rel c.in-Pairs.attr = subst (IsBlockIn d) c.in-Pairs.is c.requires in
    on_ok_weaker c.push_pairs.result (λ put. put
    ∙ ap (λ ks. keys ++ ks) (sym (of_pairs d c.in-Pairs.rel c.in-Pairs.attr has.relation has.is_relation))
    ∙ ap (λ (b : Block). keys ++ block_keys d b) (sym c.in-Pairs.is)) c.push_pairs.ensures

pub returns-in-Tops : goal.returns-in-Tops
returns-in-Tops c =
    let d = c.args.source.now in
    let keys = c.args.keys.now.items in
    let has : HasAttr d c.in-Tops.rel c.in-Tops.attr = subst (IsBlockIn d) c.in-Tops.is c.requires in
    on_ok_weaker c.push_tops.result (λ put.
    put_tops d c.in-Tops.rel c.in-Tops.attr has keys c.push_tops.new.keys.items put c.push_tops.ensures.other
    ∙ ap (λ (b : Block). keys ++ block_keys d b) (sym c.in-Tops.is)) c.push_tops.ensures.wanted

pub returns-in-Lasts : goal.returns-in-Lasts
returns-in-Lasts c =
    let d = c.args.source.now in
    let keys = c.args.keys.now.items in
    let has : HasAttr d c.in-Lasts.rel c.in-Lasts.attr = subst (IsBlockIn d) c.in-Lasts.is c.requires in
    on_ok_weaker c.push_lasts.result (λ put.
    put_lasts d c.in-Lasts.rel c.in-Lasts.attr has keys c.push_lasts.new.keys.items put c.push_lasts.ensures.other
    ∙ ap (λ (b : Block). keys ++ block_keys d b) (sym c.in-Lasts.is)) c.push_lasts.ensures.wanted

pub returns-in-Answers : goal.returns-in-Answers
returns-in-Answers c =
    let d = c.args.source.now in
    let keys = c.args.keys.now.items in
    on_ok_weaker c.append.result (λ put. put
    ∙ ap (λ n. keys ++ replicate n c.parts.result) c.answers.ensures
    ∙ ap (λ part. keys ++ replicate d.wanted.answers part) c.parts.ensures.value
    ∙ ap (λ ks. keys ++ ks) (sym (of_answers d))
    ∙ ap (λ (b : Block). keys ++ block_keys d b) (sym c.in-Answers.is)) c.append.ensures
