-- Whether a machine is fine, after the replies that it received.

pub data Standing : Type 0 where
  Fine : Standing
  -- One of its requests exhausted its retries.
  Faulted : Standing
  -- Memory ran out.
  Broken : Standing
