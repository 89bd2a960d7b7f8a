mod RoundLaws
mod PlainRuns
mod OneRun
mod LongRunLaws
