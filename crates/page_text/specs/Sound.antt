use Rattle.std.specs.Prelude.{◌≡◌, true, Ok, Err, Result}
use Rattle.refusal.specs.declared.Cause.{Cause}
use Rattle.icmc_words.specs.Encoded.{encodable}
use Rattle.icmc_words.specs.Sizes.{size}
use Rattle.page_text.specs.Sayings.{Saying, nothing, one, two, room, text, fixed}

-- an instruction that a line says can be encoded, and takes as many words as the line gives it
abbrev pub Sound : Result Saying Cause → Type 0
Sound (Ok nothing) = Unit {0}
Sound (Ok (one i)) = (encodable i ≡ true) × (size i ≡ 1)
Sound (Ok (two i o)) = (encodable i ≡ true) × (size i ≡ 2)
Sound (Ok (room q)) = Unit {0}
Sound (Ok (text q)) = Unit {0}
Sound (Ok (fixed n p v)) = Unit {0}
Sound (Err c) = Unit {0}
