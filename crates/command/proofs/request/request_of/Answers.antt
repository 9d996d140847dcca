use Rattle.std.proofs.Common.{arith}
use Rattle.std.specs.Option.{option_map}
use Rattle.command.proofs.WordByWord.{all_read, read_on}
use Rattle.command.proofs.request.request_of.Goals as goal
use Rattle.command.proofs.request.request_of.Goals.{in-File-2, in-Strict}

pub returns-in-Help : goal.returns-in-Help
returns-in-Help c =
    let step = read_on c.args.takes (option_map (λ f. f.now) c.loop-word.options.file) c.loop-word.options.strict c.args.words.now c.loop-word.word-index c.word-item.result c.as_str-word.result.now c.word_of.result (omega (arith, c.loop-word-test.true)) c.word-item.is c.as_str-word.ensures.value c.word_of.ensures in
    grind (arith, step)

pub returns-in-Version : goal.returns-in-Version
returns-in-Version c =
    let step = read_on c.args.takes (option_map (λ f. f.now) c.loop-word.options.file) c.loop-word.options.strict c.args.words.now c.loop-word.word-index c.word-item.result c.as_str-word.result.now c.word_of.result (omega (arith, c.loop-word-test.true)) c.word-item.is c.as_str-word.ensures.value c.word_of.ensures in
    grind (arith, step)

pub returns-in-Unknown : goal.returns-in-Unknown
returns-in-Unknown c =
    let step = read_on c.args.takes (option_map (λ f. f.now) c.loop-word.options.file) c.loop-word.options.strict c.args.words.now c.loop-word.word-index c.word-item.result c.as_str-word.result.now c.word_of.result (omega (arith, c.loop-word-test.true)) c.word-item.is c.as_str-word.ensures.value c.word_of.ensures in
    grind (arith, step)

pub returns-in-File : goal.returns-in-File
returns-in-File c =
    let step = read_on c.args.takes (option_map (λ f. f.now) c.loop-word.options.file) c.loop-word.options.strict c.args.words.now c.loop-word.word-index c.word-item.result c.as_str-word.result.now c.word_of.result (omega (arith, c.loop-word-test.true)) c.word-item.is c.as_str-word.ensures.value c.word_of.ensures in
    grind (arith, step)

pub loop-word-preserved : goal.loop-word-preserved
loop-word-preserved c =
    let step = read_on c.args.takes (option_map (λ f. f.now) c.loop-word.options.file) c.loop-word.options.strict c.args.words.now c.loop-word.word-index c.word-item.result c.as_str-word.result.now c.word_of.result (omega (arith, c.loop-word-test.true)) c.word-item.is c.as_str-word.ensures.value c.word_of.ensures in
    elim c.match-word_of.branch [ in-File-2 w ↦ grind (arith, step) | in-Strict w ↦ grind (arith, step) ]

pub returns : goal.returns
returns c =
    let done = all_read c.args.takes (option_map (λ f. f.now) c.loop-word.options.file) c.loop-word.options.strict c.args.words.now c.loop-word.word-index (omega (arith, c.loop-word-test.false)) in
    grind (arith, done)
