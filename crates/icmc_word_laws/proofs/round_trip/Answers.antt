use Rattle.icmc_word_laws.proofs.Back.{encoded_comes_back}
use Rattle.icmc_word_laws.proofs.round_trip.Goals as goal

pub returns-clause-back : goal.returns-clause-back
returns-clause-back c = encoded_comes_back
