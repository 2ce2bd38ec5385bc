mod KeyOptions
