use Rattle.std.proofs.Common.{rules, ◌≡◌, ℕ, length, nat_lt, ap}
use Rattle.std.specs.Char.{char_set_contains}
use Rattle.std.proofs.lemmas.Iterator.Consumers.{YieldsList-at, YieldsList-from_filter, map_from_collect}
use Rattle.script.specs.Commands.{is_blank}
use Rattle.script.proofs.Cuts.{YieldsList-from_split_by, blank_ascii, words_filled}
use Rattle.script.proofs.command.split_words.Goals as goal

pub returns-clause-words : goal.returns-clause-words
returns-clause-words c = map_from_collect c.collect.result c.collect.ensures.ran
    (YieldsList-from_filter _ (λ w. nat_lt 0 (length w))
    (YieldsList-at c.filter.ensures.source
    (YieldsList-from_split_by is_blank blank_ascii (λ l k. (d : ℕ) → char_set_contains l d ≡ k d) c.args.line.now c.split.ensures.text c.split.ensures.has_more (λ d. ap (λ l. char_set_contains l d) c.split.ensures.pattern)))
    c.filter.ensures.closure (λ x b q k. search rules))

pub returns-clause-some : goal.returns-clause-some
returns-clause-some c = words_filled c.args.line.now (λ v. v.items) c.collect.result (returns-clause-words c)
