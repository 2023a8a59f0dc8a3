-- What the host gets: the reply of a call, packed into one number.
-- Assumes nothing.
use Rattle.std.specs.Prelude.{◌≡◌, ℕ}
use Rattle.replies.specs.Replies.{packed, Reply}

-- the number of a reply that the call allows
pub record HostNumber (Allows : Reply → Type 0) (number : ℕ) : Type 0 where
  pub reply : Reply
  pub allowed : Allows reply
  pub told : number ≡ packed reply
