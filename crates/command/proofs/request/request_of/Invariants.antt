use Rattle.std.proofs.Common.{◌≡◌, map, drop}
use Rattle.std.specs.Option.{option_map}
use Rattle.std.specs.String.{string_bytes}
use Rattle.command.specs.Requests.{reading, request_of}
use Rattle.command.proofs.request.request_of.Given as goal

-- what is left to read leads to what all words ask for
abbrev pub invariant-loop-word : goal.invariant-loop-word
invariant-loop-word l =
    request_of l.takes (map string_bytes l.fn.words)
    ≡ reading l.takes (option_map (λ f. f.now) l.options.file) l.options.strict (map string_bytes (drop l.word-index l.fn.words))
