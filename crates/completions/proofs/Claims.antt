-- The claims.
use Rattle.completions.specs.Claims.{Claims}
use Rattle.completions.proofs.Cases.{holds, slow}
use Rattle.completions.proofs.Empty.{nan-empty}
use Rattle.completions.proofs.Numbers.{completions_below}
use Rattle.completions.proofs.Prompt.{prompt, prompt_answer, few_turns}

pub claims : Claims
claims = record { cases = holds; nan = nan-empty; below = completions_below; prompt = prompt; answer = prompt_answer; few = few_turns; slow = slow }
