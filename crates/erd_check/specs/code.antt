pub mod Walk  -- what the walk for the faults of the shape tells of one value
pub mod TwoVisitors  -- what two visitors find that share one walk
pub mod JsonOrder  -- an order of JSON values, by which a value is sought among others
pub mod JsonOrders  -- that this order is total
pub mod EarlierEntries  -- what is told of the entries of a set before they are walked
