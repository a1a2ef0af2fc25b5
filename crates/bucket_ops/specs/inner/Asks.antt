-- Definitions beside those of `Asks` that no public contract cites.
use Rattle.bucket_ops.specs.Asks.{Ask, reply_in}
use Rattle.s3_types.specs.Store.{Objects}
use Rattle.s3_types.specs.declared.reply.Refusal.TheVariants.{NoSuchBucket}
use Rattle.s3_types.specs.declared.reply.Reply.{Reply}
use Rattle.s3_types.specs.declared.reply.Reply.TheVariants.{Refused}
use Rattle.std.specs.Prelude.{None, Option, Some}

-- The answer to an ask, or NoSuchBucket.
abbrev pub reply_at : Option Objects → Ask → Reply
reply_at None a = Refused NoSuchBucket
reply_at (Some m) a = reply_in m a
